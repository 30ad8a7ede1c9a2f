-- A new object in free words.
use Rattle.std.specs.Prelude.{◌≡◌, ◌≢◌, ℕ, zero, suc, ◌+◌, ◌-◌, ◌<◌, ◌≤◌, List, [], ◌∷◌, ◌++◌, replicate, Contains}
use Rattle.object_headers.specs.Offsets.{first_field}
use Rattle.gap_bounds.specs.Bodies.{IsInBody, kinds_of_type, field_word_count}
use Rattle.gap_bounds.specs.Body.{Body}
use Rattle.gap_bounds.specs.Roles.{kind_lists}
use Rattle.gap_bounds.specs.Seat.{SeatView, filled_with, published}

-- words of the heap from a that belong to no object
pub record IsRoom (v : SeatView) (size a : ℕ) : Type 0 where
  pub inside : a + size ≤ v.count
  pub free : (x : ℕ) → a ≤ x → x < a + size → IsInBody v.bodies x → ⊥

-- the size of an object of the type without extra words: a header, a serial number and the type's fields
abbrev pub least_size : SeatView → ℕ → ℕ
least_size v ty = first_field + field_word_count (kinds_of_type (kind_lists v.types) ty)

-- no object has the serial number
abbrev pub IsNewNumber : SeatView → ℕ → Type 0
IsNewNumber v serial = (b : Body) → Contains v.bodies b → b.serial ≢ serial

-- a new body: its type, size and serial number, and null fields
abbrev pub new_body : ℕ → ℕ → ℕ → ℕ → Body
new_body a ty size serial = record { place = a; ty = ty; size = size; serial = serial; fields = replicate (size - first_field) 0 }

-- so many words from `first` were filled with null
abbrev pub HasNulls : List (ℕ × ℕ) → ℕ → ℕ → Type 0
HasNulls filled first count = (i : ℕ) → i < count → Contains filled (first + i, 0)

-- so many words from a were filled with null, each in place of an older one
unfoldable pub nulled : SeatView → ℕ → ℕ → SeatView
nulled v a zero = v
nulled v a (suc n) = filled_with (nulled v a n) (a + n) 0

-- so many words of a new object are written in one turn
abbrev pub turn_words : ℕ
turn_words = 8

-- the body joined the others, and words that were filled in it are no longer filled ones; marks and what was found traced are as
-- before, and while marking goes on it may be kept
pub record Occupies (old new : SeatView) (b : Body) : Type 0 where
  pub heap : new.heap ≡ old.heap
  pub types : new.types ≡ old.types
  pub on : new.on ≡ old.on
  pub bodies : new.bodies ≡ old.bodies ++ b ∷ []
  pub filled : new.filled ≡ (published old b).filled
  pub marked : new.marked ≡ old.marked
  pub traced : new.traced ≡ old.traced
  pub dead : new.dead ≡ old.dead
  pub may : new.may ≡ (published old b).may
  pub noted : new.noted ≡ old.noted
  pub hand : new.hand ≡ old.hand
  pub pending : new.pending ≡ old.pending
  pub lent : new.lent ≡ old.lent
  pub done : new.done ≡ old.done
  pub missed : new.missed ≡ old.missed
