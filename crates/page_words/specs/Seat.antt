-- What the mutator's seat knows of the words, and how each call changes that.
use Rattle.std.specs.Prelude.{◌≡◌, ℕ, ◌+◌, ◌/◌, ◌%◌, ◌^◌, ◌<◌, ◌≤◌, ◌↔◌, ◌&&◌, not, Bool, true, false, List, [], length, map, slice_index, None, Contains, All}
use Rattle.atomic_table.specs.Seated.{TableId}
use Rattle.gc_graph.specs.State.{ObjectType}
use Rattle.object_headers.specs.Layout.{header_word}
use Rattle.object_headers.specs.Offsets.{serial_offset, reference_to}
use Rattle.marker_core.specs.declared.states.Body.{Body}
use Rattle.marker_core.specs.declared.states.MutatorView.{MutatorView}
use Rattle.marker_core.specs.Layout.{bitmap_at}
use Rattle.marker_core.specs.declared.states.Why.{Why}
use Rattle.marker_core.specs.Bodies.{end_of, fields_at, word_in, role_in, IsPlace, IsInBody, with_word, holds}
use Rattle.marker_core.specs.declared.states.Role.TheVariants.{KeyWord}
use Rattle.marker_core.specs.Closed.{IsClosedOver}
use Rattle.marker_core.specs.Views.{times}
use Rattle.marker_core.specs.Idle.{idle_view}
use Rattle.marker_core.specs.Matching.{IsWhole, SerialsDiffer, ReferencesNameBodies}
use Rattle.marker_core.specs.Seats.{SeatSide}
use Rattle.marker_core.specs.SeatSteps.{seat_loaded, seat_filled, seat_stored, seat_published, seat_retracted, seat_marked, seat_claimed, seat_unmarked, seat_begun, seat_ended}
use Rattle.marker_core.specs.SeatLaws.{seat_stopped}
use Rattle.marker_core.specs.SeatFacts.{IsHeaderAt, IsMarking, IsAtRest}
use Rattle.page_words.specs.Bodies.{is_reference_word}
use Rattle.page_words.specs.Roles.{kind_lists}

-- which words they are: how many the heap has, and the table in which they lie, which is no other heap's
pub record Heap : Type 0 where
  pub count : ℕ
  pub table : TableId

-- a seat's view: which words it is for, the types of the heap's objects, and the mutator's view of the words; the parts of
-- the first and the last are told of the seat's view too
pub record SeatView : Type 0 where
  pub heap : Heap
  pub open heap use *
  pub types : List ObjectType
  pub mutator : MutatorView
  pub open mutator use *

-- what the step machine looks at in a seat's view
abbrev pub side : SeatView → SeatSide
side v = record { count = v.count; types = kind_lists v.types; mutator = v.mutator }

-- the view with other bodies
abbrev pub with_bodies : SeatView → List Body → SeatView
with_bodies v bodies = record v { mutator = record v.mutator { bodies = bodies } }

-- so many words have their start bits in one word
abbrev pub block_words : ℕ
block_words = 64

-- a is a place, and not below from
abbrev pub IsPlaceFrom : List Body → ℕ → ℕ → Type 0
IsPlaceFrom bodies from a = (from ≤ a) × IsPlace bodies a

-- the header word of a published body
abbrev pub header_of : SeatView → Body → ℕ
header_of v b = header_word true (holds v.marked b.place) (holds v.traced b.place) b.ty b.size

-- w is the word at a, as far as the view tells: marks and traced bits are exact where no view is lent
pub record TellsWordAt (v : SeatView) (a w : ℕ) : Type 0 where
  pub header : (b : Body) → Contains v.bodies b → b.place ≡ a → IsHeaderAt (side v) a w
  pub alone : v.lent ≡ 0 → (b : Body) → Contains v.bodies b → b.place ≡ a → w ≡ header_of v b
  pub serial : (b : Body) → Contains v.bodies b → b.place + serial_offset ≡ a → w ≡ b.serial
  pub field : (b : Body) (i : ℕ) → Contains v.bodies b → i < length b.fields → fields_at b + i ≡ a → w ≡ slice_index b.fields i
  pub filled : (f : ℕ × ℕ) → Contains v.filled f → f.0 ≡ a → w ≡ f.1
  pub start : (p : ℕ) → p < v.count → bitmap_at v.count p ≡ a → (w / 2 ^ (p % block_words) % 2 ≡ 1) ↔ IsPlace v.bodies p

-- ---- what the calls change: each is a step of the machine

-- the view after the mutator's has changed
abbrev pub with_mutator : SeatView → MutatorView → SeatView
with_mutator v m = record v { mutator = m }

-- the word at a was loaded, for this reason
abbrev pub loaded : SeatView → ℕ → Why → ℕ → SeatView
loaded v a why found = with_mutator v (seat_loaded (side v) a why found)

-- the view without what was looked at
abbrev pub unlooked : SeatView → SeatView
unlooked v = record v { mutator = record v.mutator { looked = []; done = [] } }

-- headers were looked at, and nothing else has changed
abbrev pub OnlyLooked : SeatView → SeatView → Type 0
OnlyLooked old new = unlooked new ≡ unlooked old

-- the word at a was filled, in place of an older one
abbrev pub filled_with : SeatView → ℕ → ℕ → SeatView
filled_with v a w = with_mutator v (seat_filled (side v) a w)

-- the field word at a was stored
abbrev pub stored : SeatView → ℕ → ℕ → SeatView
stored v a w = with_mutator v (seat_stored (side v) a w)

-- the bodies alone have changed: w is the word at a
abbrev pub rewritten : SeatView → ℕ → ℕ → SeatView
rewritten v a w = with_bodies v (map (with_word a w) v.bodies)

-- the body was published, and its words are no longer filled ones
abbrev pub published : SeatView → Body → SeatView
published v b = with_mutator v (seat_published (side v) b)

-- no reference word of a body that isn't dead names a
abbrev pub IsUnnamed : List ObjectType → List Body → List ℕ → ℕ → Type 0
IsUnnamed types bodies dead a =
    (b : Body) (i : ℕ) → Contains bodies b → holds dead b.place ≡ false → i < length b.fields → is_reference_word types b i ≡ true
    → slice_index b.fields i ≡ reference_to a → ⊥

-- the dead body at a is no longer there
abbrev pub retracted : SeatView → ℕ → SeatView
retracted v a = with_mutator v (seat_retracted (side v) a)

-- the body at a has the mark, which it had before or not
abbrev pub marked_at : SeatView → ℕ → Bool → SeatView
marked_at v a was = with_mutator v (seat_marked (side v) a was)

-- the body at a is marked and not yet traced
abbrev pub is_grey_at : SeatView → ℕ → Bool
is_grey_at v a = holds v.marked a && not (holds v.traced a)

-- the body at a, whose header was found so, was traced where that is grey, and is then in the hand
abbrev pub claimed_at : SeatView → ℕ → ℕ → SeatView
claimed_at v a found = with_mutator v (seat_claimed (side v) a found)

-- the body at a has neither mark nor traced bit
abbrev pub unmarked_at : SeatView → ℕ → SeatView
unmarked_at v a = with_mutator v (seat_unmarked (side v) a)

-- nothing is marked, traced or dead
pub record IsQuiet (v : SeatView) : Type 0 where
  pub off : v.on ≡ false
  pub marked : v.marked ≡ []
  pub traced : v.traced ≡ []
  pub dead : v.dead ≡ []

-- marking goes on, from these roots
abbrev pub begun : SeatView → List ℕ → SeatView
begun v roots = with_mutator v (seat_begun (side v) roots)

-- marking has ended, and what is not marked is dead
abbrev pub ended : SeatView → SeatView
ended v = with_mutator v (seat_ended (side v))

-- markers are to stop; where no view is lent marking ends
abbrev pub stopped : SeatView → SeatView
stopped v = with_mutator v (seat_stopped (side v))

-- the stop word was set: to stop ends marking, and not to stop begins it from these roots
abbrev pub stop_set : SeatView → List ℕ → Bool → SeatView
stop_set v roots true = stopped v
stop_set v roots false = begun v roots

-- both words of each pair are null, or neither is
abbrev pub PairsAreWhole : SeatView → Type 0
PairsAreWhole v =
    (b : Body) (i : ℕ) → Contains v.bodies b → role_in (kind_lists v.types) b i ≡ KeyWord → (word_in b i ≡ 0) ↔ (word_in b (i + 1) ≡ 0)

-- no object is in hand, and nothing waits for its mark
pub record IsStill (v : SeatView) : Type 0 where
  pub no_hand : v.hand ≡ None
  pub no_pending : v.pending ≡ None

-- the same, and no view is lent
pub record IsAlone (v : SeatView) : Type 0 where
  pub no_hand : v.hand ≡ None
  pub no_pending : v.pending ≡ None
  pub none_lent : v.lent ≡ 0

-- marking has done its work: what is marked is traced, and closed over the bodies
pub record IsMarkedOut (v : SeatView) : Type 0 where
  pub alone : IsAlone v
  pub traced : (a : ℕ) → holds v.marked a ≡ true → holds v.traced a ≡ true
  pub closed : IsClosedOver (kind_lists v.types) v.bodies (holds v.marked)

-- marking begins from a quiet heap with whole pairs, and ends once it has done its work
abbrev pub MaySetStop : SeatView → Bool → Type 0
MaySetStop v true = v.on ≡ true → v.lent ≡ 0 → IsMarkedOut v
MaySetStop v false = IsQuiet v × PairsAreWhole v

-- the view of new words: nothing is published, filled or marked, and no marking goes on
abbrev pub empty_view : Heap → List ObjectType → SeatView
empty_view heap types = record { heap = heap; types = types; mutator = idle_view }

-- what is true of every seat's view
pub record IsView (v : SeatView) : Type 0 where
  pub count : v.count ≤ 2 ^ 24
  pub few : length v.types < 16384
  pub whole : All (IsWhole v.count (kind_lists v.types)) v.bodies
  pub serials : SerialsDiffer v.bodies
  pub apart :
      (b c : Body) (a : ℕ) → Contains v.bodies b → Contains v.bodies c → b.place ≤ a → a < end_of b → c.place ≤ a → a < end_of c
      → b ≡ c
  pub filled_outside : (f : ℕ × ℕ) → Contains v.filled f → (f.0 < v.count) × (IsInBody v.bodies f.0 → ⊥)
  pub references : ReferencesNameBodies (kind_lists v.types) v.bodies v.dead
  pub marked_are_bodies : (a : ℕ) → holds v.marked a ≡ true → IsPlace v.bodies a
  pub traced_are_bodies : (a : ℕ) → holds v.traced a ≡ true → IsPlace v.bodies a
  pub traced_once : (a : ℕ) → times a v.traced ≤ 1
  pub traced_are_marked : v.lent ≡ 0 → (a : ℕ) → holds v.traced a ≡ true → holds v.marked a ≡ true
  pub dead_are_unmarked : (a : ℕ) → holds v.dead a ≡ true → IsPlace v.bodies a × (holds v.marked a ≡ false)
  pub marking : v.on ≡ true → IsMarking (side v)
  pub at_rest : v.on ≡ false → IsAtRest (side v)
  pub none_noted : v.on ≡ false → v.noted ≡ []
