-- The numbers that the words of a faultless line say are in the ranges of their places.
use Rattle.std.proofs.Common.{◌≡◌, ℕ, zero, suc, ◌<◌, ◌≤◌, ◌&&◌, ◌||◌, Bool, true, false, cond, List, [], ◌∷◌, length, refl, sym, ◌∙◌, inl, inr, arith}
use Rattle.std.specs.Prelude.{nat_lt, nat_le, not, ⊤}
use Rattle.std.proofs.lemmas.Bool.{and_parts, and_cases, or_parts, not-false, true≢false, leb-true, ltb-true}
use Rattle.gc_graph.specs.Words.{is_text, is_number}
use Rattle.gc_graph.specs.Forms.{Place}
use Rattle.gc_graph.specs.Forms.Place.{Fixed, Either, Letters, Number, NumberOr, TypeNumber, Callback}
use Rattle.gc_graph.specs.Reasons.{Bounds, value_of, is_bad, is_outside, is_beyond, any_word, all_say}

-- the first number is fine, and so are the others
abbrev pub FitsFirst : (ℕ → Type 0) → (List ℕ → Type 0) → List ℕ → Type 0
FitsFirst is_fine rest [] = ⊥
FitsFirst is_fine rest (n ∷ numbers) = is_fine n × rest numbers

-- a number from the first on, and below the second
abbrev pub IsFrom : ℕ → ℕ → ℕ → Type 0
IsFrom from limit n = (from ≤ n) × (n < limit)

-- 0 for the word, or one more than such a number
abbrev pub IsFromOr : ℕ → ℕ → ℕ → Type 0
IsFromOr from limit zero = ⊤
IsFromOr from limit (suc n) = (from ≤ n) × (n < limit)

-- the numbers are in the ranges of the places
abbrev pub Fit : Bounds → List Place → List ℕ → Type 0
Fit bounds [] numbers = numbers ≡ []
Fit bounds (Fixed text ∷ places) numbers = Fit bounds places numbers
Fit bounds (Letters ∷ places) numbers = Fit bounds places numbers
Fit bounds (Either one other ∷ places) numbers = FitsFirst (λ n. ⊤) (Fit bounds places) numbers
Fit bounds (Number from limit ∷ places) numbers = FitsFirst (IsFrom from limit) (Fit bounds places) numbers
Fit bounds (NumberOr text from limit ∷ places) numbers = FitsFirst (IsFromOr from limit) (Fit bounds places) numbers
Fit bounds (TypeNumber ∷ places) numbers = FitsFirst (IsFrom 0 bounds.types) (Fit bounds places) numbers
Fit bounds (Callback ∷ places) numbers = FitsFirst (IsFrom 0 bounds.callbacks) (Fit bounds places) numbers

-- a number that isn't out of its range
pub number_fits : (from limit : ℕ) (word : List ℕ) → is_number word ≡ true → is_beyond from limit word ≡ false → IsFrom from limit (value_of word)
number_fits from limit word number inside =
    elim (and_cases (is_number word) (not (nat_le from (value_of word) && nat_lt (value_of word) limit)) inside) [
      | inl other ↦ absurd (true≢false (sym number ∙ other))
      | inr within ↦ (let parts = and_parts (nat_le from (value_of word)) (nat_lt (value_of word) limit) (not-false _ within) in
          (leb-true _ _ parts.0, ltb-true _ _ parts.1))
    ]

or_number_fits : (text word : List ℕ) (from limit : ℕ) (is : Bool) → (is || is_number word) ≡ true → is_beyond from limit word ≡ false
    → IsFromOr from limit (cond is 0 (suc (value_of word)))
or_number_fits text word from limit true number inside = tt
or_number_fits text word from limit false number inside = number_fits from limit word number inside

-- with more types, too
pub fit : (bounds : Bounds) (types : ℕ) → bounds.types ≤ types → (places : List Place) (words : List (List ℕ))
    → length words ≡ length places
    → any_word is_bad places words ≡ false → any_word (is_outside bounds) places words ≡ false → Fit (record { types = types; callbacks = bounds.callbacks }) places (all_say places words)
fit bounds types low [] words count good inside = refl
fit bounds types low (place ∷ places) [] count good inside = absurd (omega (arith, count))
fit bounds types low (Fixed text ∷ places) (word ∷ words) count good inside = fit bounds types low places words (omega (arith, count)) good inside
fit bounds types low (Letters ∷ places) (word ∷ words) count good inside =
    fit bounds types low places words (omega (arith, count)) good (or_parts (nat_lt 64 (length word)) _ inside).1
fit bounds types low (Either one other ∷ places) (word ∷ words) count good inside = (tt, fit bounds types low places words (omega (arith, count)) good inside)
fit bounds types low (Number from limit ∷ places) (word ∷ words) count good inside =
    let g = or_parts (not (is_number word)) _ good in
    let i = or_parts (is_beyond from limit word) _ inside in
    (number_fits from limit word (not-false _ g.0) i.0, fit bounds types low places words (omega (arith, count)) g.1 i.1)
fit bounds types low (NumberOr text from limit ∷ places) (word ∷ words) count good inside =
    let g = or_parts (not (is_text word text || is_number word)) _ good in
    let i = or_parts (is_beyond from limit word) _ inside in
    (or_number_fits text word from limit (is_text word text) (not-false _ g.0) i.0, fit bounds types low places words (omega (arith, count)) g.1 i.1)
fit bounds types low (TypeNumber ∷ places) (word ∷ words) count good inside =
    let g = or_parts (not (is_number word)) _ good in
    let i = or_parts (is_beyond 0 bounds.types word) _ inside in
    let n = number_fits 0 bounds.types word (not-false _ g.0) i.0 in
    ((n.0, omega (arith, n.1)), fit bounds types low places words (omega (arith, count)) g.1 i.1)
fit bounds types low (Callback ∷ places) (word ∷ words) count good inside =
    let g = or_parts (not (is_number word)) _ good in
    let i = or_parts (is_beyond 0 bounds.callbacks word) _ inside in
    (number_fits 0 bounds.callbacks word (not-false _ g.0) i.0, fit bounds types low places words (omega (arith, count)) g.1 i.1)
