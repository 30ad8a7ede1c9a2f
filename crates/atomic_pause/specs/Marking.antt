-- How a pause marks the words: what its roots are, what it may mark, and what it ends with.
use Rattle.std.specs.Prelude.{◌≡◌, ◌⊎◌, ℕ, Bool, true, false, List, ◌++◌, length, Option, Some, count_by, Contains}
use Rattle.gc_graph.specs.State.{ObjectType}
use Rattle.cross_thread_region.specs.declared.chronicle.PlacedEntry.{PlacedEntry}
use Rattle.cross_thread_region.specs.Histories.{strong_place}
use Rattle.marker_core.specs.Bodies.{holds}
use Rattle.marker_core.specs.declared.states.Body.{Body}
use Rattle.marker_core.specs.Closed.{IsClosedOver}
use Rattle.marker_core.specs.SeatSteps.{unmarked_places}
use Rattle.page_words.specs.Roles.{kind_lists}
use Rattle.page_words.specs.Seat.{SeatView, side}
use Rattle.weak_clearing.specs.Space.{HoldsAddress}

-- a word of the stack is an address of a word of the body at the place
abbrev pub IsHitPlace : List Body → List ℕ → ℕ → Type 0
IsHitPlace bodies stack place = (a : ℕ) × Contains stack a × HoldsAddress bodies a place

-- the stack is looked at, and hits the body at the place; a precise pause doesn't look at it
abbrev pub IsScanned : Bool → List Body → List ℕ → ℕ → Type 0
IsScanned precise bodies stack place = (precise ≡ false) × IsHitPlace bodies stack place

-- a strong slot of the region has the place
abbrev pub IsSharedPlace : List PlacedEntry → ℕ → Type 0
IsSharedPlace history place = (x : ℕ) × (strong_place history x ≡ Some place)

-- a strong slot of the region has the place, or the stack is looked at and hits the body there
abbrev pub IsOtherRoot : List PlacedEntry → Bool → List Body → List ℕ → ℕ → Type 0
IsOtherRoot history precise bodies stack place = IsSharedPlace history place ⊎ IsScanned precise bodies stack place

-- a slot holds the place, or another root is there
abbrev pub IsRootPlace : List (Option ℕ) → List PlacedEntry → Bool → List Body → List ℕ → ℕ → Type 0
IsRootPlace slots history precise bodies stack place = Contains slots (Some place) ⊎ IsOtherRoot history precise bodies stack place

-- the object at the place may be kept, or another root is there
abbrev pub IsMayOrRoot : List PlacedEntry → Bool → SeatView → List ℕ → ℕ → Type 0
IsMayOrRoot history precise v stack place = (holds v.may place ≡ true) ⊎ IsOtherRoot history precise v.bodies stack place

-- the test holds of each root
abbrev pub HoldsRoots : (ℕ → Bool) → (ℕ → Type 0) → Type 0
HoldsRoots test root = (p : ℕ) → root p → test p ≡ true

-- how many bodies are marked
abbrev pub marked_count : SeatView → ℕ
marked_count v = count_by (λ b. holds v.marked b.place) v.bodies

-- the view in which these may be kept
abbrev pub with_may : SeatView → List ℕ → SeatView
with_may v may = record v { mutator = record v.mutator { may = may } }

-- the places that a view marks
abbrev pub IsMarkedIn : SeatView → ℕ → Type 0
IsMarkedIn v p = holds v.marked p ≡ true

-- marking is over: what these roots reach is marked, and nothing but what may lead to it; what is not marked is dead
pub record MarksReachable (types : List ObjectType) (root may : ℕ → Type 0) (old new : SeatView) : Type 0 where
  pub heap : new.heap ≡ old.heap
  pub known : new.types ≡ old.types
  pub off : new.on ≡ false
  pub bodies : new.bodies ≡ old.bodies
  pub roots : HoldsRoots (holds new.marked) root
  pub closed : IsClosedOver (kind_lists types) new.bodies (holds new.marked)
  pub least : (test : ℕ → Bool) → IsClosedOver (kind_lists types) new.bodies test → HoldsRoots test may → (p : ℕ) → holds new.marked p ≡ true → test p ≡ true
  pub dead : new.dead ≡ unmarked_places (side new)

-- the headers that were looked at until marking ended are at such places; more headers were looked at after that
pub record LooksEarlyAt (is_so : ℕ → Type 0) (old new : SeatView) : Type 0 where
  pub more : List ℕ
  pub rest : List ℕ
  pub grown : new.looked ≡ old.looked ++ more ++ rest
  pub early : new.early ≡ length (old.looked ++ more)
  pub each : (p : ℕ) → Contains more p → is_so p
