-- The rule of the table in which the words lie, and what the seats of the table know.
use Rattle.std.specs.Prelude.{◌≡◌, ℕ, ◌^◌, ◌<◌, Bool, true, false, List, [], ◌∷◌, map, if◌then◌else◌}
use Rattle.atomic_table.specs.Table.{State, Me}
use Rattle.atomic_table.specs.Seated.{TableId}
use Rattle.gc_graph.specs.State.{ObjectType}
use Rattle.marker_core.specs.declared.states.MarkerView.{MarkerView}
use Rattle.marker_core.specs.declared.states.MutatorView.{MutatorView}
use Rattle.marker_core.specs.declared.steps.CoreStep.{CoreStep}
use Rattle.marker_core.specs.Core.{IsCoreOk}
use Rattle.marker_core.specs.Idle.{idle_view}
use Rattle.marker_core.specs.SeatFacts.{MayBeFound}
use Rattle.marker_core.specs.SeatLaws.{IsSeatStep}
use Rattle.marker_core.specs.Seats.{SeatSide, core_of}
use Rattle.marker_core.specs.Views.{spent_view}
use Rattle.page_words.specs.Heaps.{IsCount}
use Rattle.page_words.specs.Roles.{kind_lists}
use Rattle.page_words.specs.Seat.{SeatView, IsView, side}

-- what a seat of the table knows: whether it is the mutator's, how many words the heap has, the types of its objects, and
-- the mutator's view or a marker's
pub record RuleView : Type 0 where
  pub owner : Bool
  pub count : ℕ
  pub types : List ObjectType
  pub mutator : MutatorView
  pub marker : MarkerView

-- what the step machine looks at in the mutator's
abbrev pub side_of : RuleView → SeatSide
side_of v = record { count = v.count; types = kind_lists v.types; mutator = v.mutator }

-- the same with another view of the mutator
abbrev pub turned_to : RuleView → MutatorView → RuleView
turned_to v m = record v { mutator = m }

-- what the mutator's seat knows
abbrev pub owner_view : RuleView → RuleView
owner_view v = record { owner = true; count = v.count; types = v.types; mutator = v.mutator; marker = spent_view }

-- what the seat of a marker knows beside it; one that was given back knows nothing
abbrev pub marker_view : RuleView → MarkerView → RuleView
marker_view v m = record {
  owner = false;
  count = if m.spent then 0 else v.count;
  types = if m.spent then [] else v.types;
  mutator = idle_view;
  marker = m;
}

-- the rule: the mutator's seat is the first and the others are markers', and the words and all views are a state of the step
-- machine of which all is true that is true of every state
abbrev pub IsCore : State (Unit {0}) RuleView → Type 0
IsCore s =
    (v : RuleView) × (markers : List MarkerView) × (s.views ≡ owner_view v ∷ map (marker_view v) markers)
    × IsCoreOk (core_of (side_of v) s.words markers)

-- there are words and markers beside which this is the mutator's view
pub record IsSure (v : RuleView) : Type 0 where
  pub count : IsCount v.count
  pub words : List ℕ
  pub markers : List MarkerView
  pub ok : IsCoreOk (core_of (side_of v) words markers)
  pub none_noted : v.mutator.on ≡ false → v.mutator.noted ≡ []

-- a seat of the table is the mutator's: it holds no slot and has the mutator's view
pub record IsOwner (me : Me (Unit {0}) RuleView) : Type 0 where
  pub empty : me.1 ≡ []
  pub owns : me.0 ≡ owner_view me.0
  pub sure : IsSure me.0

-- what contracts see of the mutator's seat
abbrev pub seat_view : TableId → RuleView → SeatView
seat_view table v = record { heap = record { count = v.count; table = table }; types = v.types; mutator = v.mutator }

-- ---- one step

-- writing this of the word that is found at the address, and turning the mutator's view to the next one, is a step of the
-- machine, after which no pair is noted unless marking goes on
pub record IsStepOf (v : SeatView) (at : ℕ) (writes : ℕ → ℕ) (next : ℕ → MutatorView) : Type 0 where
  pub step : CoreStep
  pub makes : ℕ → ℕ
  pub law : IsSeatStep (side v) step at makes next
  pub same : (n : ℕ) → n < 2 ^ 64 → makes n ≡ writes n
  pub quiet : IsView v → (n : ℕ) → (next n).on ≡ false → (next n).noted ≡ []

-- the mutator's seat has written: it has the next view
pub record Turns (before : RuleView) (next : MutatorView) (after : Me (Unit {0}) RuleView) : Type 0 where
  pub owner : IsOwner after
  pub view : after.0 ≡ turned_to before next

-- it has found a word, which its view tells, and has the next view for it
pub record Finds (before : RuleView) (at : ℕ) (next : ℕ → MutatorView) (found : ℕ) (after : Me (Unit {0}) RuleView) : Type 0 where
  pub told : MayBeFound (side_of before) at found
  pub turns : Turns before (next found) after
