-- What reads and writes do to the bytes that are told.
use Rattle.std.specs.Prelude.{◌≡◌, ℕ, ◌+◌, ◌≤◌, ◌<◌, List, [], ◌++◌, length, take, drop, Option, Some, None, Result, Ok, Err}

-- a read of n bytes into the buffer; none are read only at the end
pub record TakesFrom (old new buffer : List ℕ) (n : ℕ) : Type 0 where
  pub within : n ≤ length old
  pub rest : new ≡ drop n old
  pub moved : take n buffer ≡ take n old
  pub end : n ≡ 0 → old ≡ []

-- what a read leaves of the bytes that are told
abbrev pub Takes : Option (List ℕ) → Option (List ℕ) → List ℕ → ℕ → Type 0
Takes None new buffer n = new ≡ None
Takes (Some old) new buffer n = (rest : List ℕ) × (new ≡ Some rest) × TakesFrom old rest buffer n

-- the bytes that were left are these, up to the first past the limit
abbrev pub IsReadFrom : Option (List ℕ) → Option (List ℕ) → ℕ → List ℕ → Type 0
IsReadFrom None new limit bytes = new ≡ None
IsReadFrom (Some old) new limit bytes = (bytes ≡ take (limit + 1) old) × (new ≡ Some (drop (length bytes) old))

-- while the bytes that were left are read
abbrev pub IsReadUpTo : Option (List ℕ) → Option (List ℕ) → List ℕ → Type 0
IsReadUpTo None now bytes = now ≡ None
IsReadUpTo (Some old) now bytes =
    (bytes ≡ take (length bytes) old) × (length bytes ≤ length old) × (now ≡ Some (drop (length bytes) old))

-- the sink has taken this text more
abbrev pub Grew : Option (List ℕ) → Option (List ℕ) → List ℕ → Type 0
Grew None new text = new ≡ None
Grew (Some old) new text = new ≡ Some (old ++ text)

-- the sink has taken a beginning of this text
abbrev pub GrewByFront : Option (List ℕ) → Option (List ℕ) → List ℕ → Type 0
GrewByFront old new text = (front : List ℕ) × (rest : List ℕ) × (text ≡ front ++ rest) × Grew old new front

-- a write takes bytes from the front, one at least, and after a failure none
abbrev pub Appends : {E : Type 0} → Option (List ℕ) → Option (List ℕ) → List ℕ → Result ℕ E → Type 0
Appends old new piece (Ok n) = (0 < n) × (n ≤ length piece) × Grew old new (take n piece)
Appends old new piece (Err e) = new ≡ old

-- the whole text was written, or after a failure a beginning of it
abbrev pub Writes : {T E : Type 0} → Option (List ℕ) → Option (List ℕ) → List ℕ → Result T E → Type 0
Writes old new text (Ok u) = Grew old new text
Writes old new text (Err e) = GrewByFront old new text
