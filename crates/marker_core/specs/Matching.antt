-- How words, bodies and views belong together.
use Rattle.std.specs.Prelude.{◌≡◌, ◌≢◌, ◌⊎◌, ℕ, ◌+◌, ◌*◌, ◌/◌, ◌^◌, ◌<◌, ◌≤◌, not, nat_lt, Bool, true, false, List, [], length, Option, None, Contains, All, slice_index}
use Rattle.std.specs.List.{AllPairs, count_by}
use Rattle.gc_graph.specs.declared.kind.Kind.{Kind}
use Rattle.object_headers.specs.Offsets.{serial_offset, first_field}
use Rattle.object_headers.specs.Layout.{header_word}
use Rattle.marker_core.specs.declared.states.Body.{Body}
use Rattle.marker_core.specs.declared.states.Hand.{Hand}
use Rattle.marker_core.specs.declared.states.MarkerView.{MarkerView}
use Rattle.marker_core.specs.Layout.{stop_at, is_start}
use Rattle.marker_core.specs.Bodies.{field_word_count, refers, kinds_of_type, word_in, role_in, end_of, is_place, in_body, names_body, holds}

-- at most 16,383 types, each with at most 64 fields
pub record AreTypes (types : List (List Kind)) : Type 0 where
  pub few : length types < 16384
  pub short : All (λ kinds. length kinds ≤ 64) types

-- addresses have 32 bits; the heap has a whole number of words of start bits, and these and the stop word come after it
pub record HasRoom (count : ℕ) (words : List ℕ) : Type 0 where
  pub small : count < 2 ^ 32
  pub bits : count ≡ 64 * (count / 64)
  pub length_is : length words ≡ stop_at count + 1

-- a body is of one of the types, lies in the heap, and has room for a header, a serial number and the type's fields
pub record IsWhole (count : ℕ) (types : List (List Kind)) (b : Body) : Type 0 where
  pub ty : b.ty < length types
  pub room : 2 + field_word_count (kinds_of_type types b.ty) ≤ b.size
  pub size : b.size < 2 ^ 26
  pub inside : end_of b ≤ count
  pub fields : length b.fields + first_field ≡ b.size

-- each body is whole
abbrev pub AreWhole : ℕ → List (List Kind) → List Body → Type 0
AreWhole count types bodies = (b : Body) → Contains bodies b → IsWhole count types b

-- bodies lie apart
abbrev pub LieApart : List Body → Type 0
LieApart bodies = AllPairs (λ b c. (end_of b ≤ c.place) ⊎ (end_of c ≤ b.place)) bodies

-- no two bodies have one serial number
abbrev pub SerialsDiffer : List Body → Type 0
SerialsDiffer bodies = AllPairs (λ b c. b.serial ≢ c.serial) bodies

-- each body has a header word: live, with its mark and traced bit as the views tell, its type and its size
abbrev pub HeadersMatch : List ℕ → (ℕ → ℕ) → (ℕ → ℕ) → List Body → Type 0
HeadersMatch words marks traces bodies =
    (b : Body) → Contains bodies b
    → slice_index words b.place ≡ header_word true (nat_lt 0 (marks b.place)) (nat_lt 0 (traces b.place)) b.ty b.size

-- each body has its serial number in its second word
abbrev pub SerialsMatch : List ℕ → List Body → Type 0
SerialsMatch words bodies = (b : Body) → Contains bodies b → slice_index words (b.place + serial_offset) ≡ b.serial

-- the start bits are set just at the places of bodies
abbrev pub StartsMatch : ℕ → List ℕ → List Body → Type 0
StartsMatch count words bodies = (a : ℕ) → a < count → is_start count words a ≡ is_place bodies a

-- the words of the fields are those of the bodies
abbrev pub FieldsMatch : List ℕ → List Body → Type 0
FieldsMatch words bodies =
    (b : Body) (i : ℕ) → Contains bodies b → i < length b.fields → slice_index words (b.place + first_field + i) ≡ word_in b i

-- what was filled lies in the heap outside the bodies, and is what the word holds; no address stands there twice
pub record FilledMatch (count : ℕ) (words : List ℕ) (bodies : List Body) (filled : List (ℕ × ℕ)) : Type 0 where
  pub inside : (f : ℕ × ℕ) → Contains filled f → f.0 < count
  pub outside : (f : ℕ × ℕ) → Contains filled f → in_body bodies f.0 ≡ false
  pub word : (f : ℕ × ℕ) → Contains filled f → slice_index words f.0 ≡ f.1
  pub once : AllPairs (λ f g. f.0 ≢ g.0) filled

-- each reference of a body that isn't dead is null or names a body
abbrev pub ReferencesNameBodies : List (List Kind) → List Body → List ℕ → Type 0
ReferencesNameBodies types bodies dead =
    (b : Body) (i : ℕ) → Contains bodies b → holds dead b.place ≡ false → refers (role_in types b i) ≡ true
    → names_body bodies (word_in b i) ≡ true

-- ---- while no marking goes on

-- a view that was given back knows nothing
pub record IsEmptied (v : MarkerView) : Type 0 where
  pub known : v.known ≡ []
  pub marked : v.marked ≡ []
  pub traced : v.traced ≡ []
  pub noted : v.noted ≡ []
  pub hand : v.hand ≡ None
  pub done : v.done ≡ []
  pub halted : v.halted ≡ false

-- only while marking goes on is there a view that isn't spent, a target that waits for its mark, or a hand, and then nothing
-- is dead; the lent views are those that aren't spent; one of these is halted only where the stop word is 1
pub record QuietWhileOff (on : Bool) (pending : Option ℕ) (hand : Option Hand) (dead : List ℕ) (lent : ℕ) (views : List MarkerView) (stop : ℕ) : Type 0 where
  pub no_pending : on ≡ false → pending ≡ None
  pub no_hand : on ≡ false → hand ≡ None
  pub no_views : on ≡ false → (v : MarkerView) → Contains views v → v.spent ≡ true
  pub no_dead : on ≡ true → dead ≡ []
  pub lent_views : lent ≡ count_by (λ v. not v.spent) views
  pub spent_views : (v : MarkerView) → Contains views v → v.spent ≡ true → IsEmptied v
  pub halted_views : (v : MarkerView) → Contains views v → v.halted ≡ true → stop ≡ 1
