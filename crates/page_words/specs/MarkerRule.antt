-- What a marker's seat of the table is, and what its steps tell.
use Rattle.std.specs.Prelude.{◌≡◌, ℕ, ◌^◌, ◌<◌, ◌==◌, ◌&&◌, not, false, true, List, [], if◌then◌else◌}
use Rattle.atomic_table.specs.Table.{Me}
use Rattle.atomic_table.specs.Seated.{TableId}
use Rattle.marker_core.specs.declared.states.MarkerView.{MarkerView}
use Rattle.marker_core.specs.declared.states.MutatorView.{MutatorView}
use Rattle.marker_core.specs.declared.steps.CoreStep.{CoreStep}
use Rattle.marker_core.specs.Core.{IsCoreOk}
use Rattle.marker_core.specs.Idle.{idle_view}
use Rattle.marker_core.specs.MarkerFacts.{MarkerMayFind}
use Rattle.marker_core.specs.MarkerLaws.{IsMarkerStep}
use Rattle.marker_core.specs.MarkerSeats.{MarkerSide, seat_beside, seat_lent, seat_joined}
use Rattle.marker_core.specs.Seats.{core_of}
use Rattle.marker_core.specs.Views.{fresh_view, spent_view, view_at}
use Rattle.page_words.specs.Heaps.{IsCount}
use Rattle.page_words.specs.Markers.{MarkerSeatView, marker_side}
use Rattle.page_words.specs.Roles.{kind_lists}
use Rattle.page_words.specs.Rule.{RuleView, side_of, turned_to, marker_view, IsOwner}

-- what the step machine looks at in a marker's
abbrev pub marker_side_of : RuleView → MarkerSide
marker_side_of v = record { count = v.count; types = kind_lists v.types; marker = v.marker }

-- the same with another view of the marker
abbrev pub marked_to : RuleView → MarkerView → RuleView
marked_to v m = record v { marker = m }

-- what a marker's seat knows
abbrev pub out_view : RuleView → RuleView
out_view v = record { owner = false; count = v.count; types = v.types; mutator = idle_view; marker = v.marker }

-- there are words, a view of the mutator, and markers one of which has this view, which is not spent
pub record IsSureMarker (v : RuleView) : Type 0 where
  pub count : IsCount v.count
  pub out : v.marker.spent ≡ false
  pub mutator : MutatorView
  pub words : List ℕ
  pub markers : List MarkerView
  pub number : ℕ
  pub ok : IsCoreOk (core_of (seat_beside (marker_side_of v) mutator) words markers)
  pub there : view_at markers number ≡ v.marker

-- a seat of the table is a marker's: it holds no slot and has a marker's view
pub record IsMarker (me : Me (Unit {0}) RuleView) : Type 0 where
  pub empty : me.1 ≡ []
  pub owns : me.0 ≡ out_view me.0
  pub sure : IsSureMarker me.0

-- what contracts see of a marker's seat
abbrev pub marker_seat_view : TableId → RuleView → MarkerSeatView
marker_seat_view table v = record { heap = record { count = v.count; table = table }; types = v.types; marker = v.marker }

-- ---- one step

-- writing this of the word that is found at the address, and turning the marker's view to the next one, is a step of the machine
-- in which the view is not given back
pub record IsMarkerStepOf (v : MarkerSeatView) (at : ℕ) (writes : ℕ → ℕ) (next : ℕ → MarkerView) : Type 0 where
  pub step : ℕ → CoreStep
  pub makes : ℕ → ℕ
  pub law : IsMarkerStep (marker_side v) step at makes next
  pub same : (n : ℕ) → n < 2 ^ 64 → makes n ≡ writes n
  pub out : v.marker.spent ≡ false → (n : ℕ) → (next n).spent ≡ false

-- the marker's seat has found a word, which its view tells, and has the next view for it
pub record MarkerFinds (before : RuleView) (at : ℕ) (next : ℕ → MarkerView) (found : ℕ) (after : Me (Unit {0}) RuleView) : Type 0 where
  pub told : MarkerMayFind (marker_side_of before) at found
  pub marker : IsMarker after
  pub view : after.0 ≡ marked_to before (next found)

-- ---- a seat is lent, and given back

-- what the mutator's seat knows after it lent one
abbrev pub lender_view : RuleView → RuleView
lender_view v = turned_to v (seat_lent (side_of v))

-- what a seat knows that was just lent
abbrev pub lent_view : RuleView → RuleView
lent_view v = marker_view v fresh_view

-- what a seat that was given back knows: nothing
abbrev pub given_view : RuleView
given_view = record { owner = false; count = 0; types = []; mutator = idle_view; marker = spent_view }

-- a view that the mutator has in no state: no marking goes on, and yet a seat is lent
abbrev pub impossible_view : MutatorView
impossible_view = record idle_view { lent = 1 }

-- what the mutator knows once this was given back. That marking goes on and a seat is lent is true wherever a seat can be given
-- back; the test is there so that the view tells it
abbrev pub taken_back : RuleView → MarkerView → MutatorView
taken_back v given = if v.mutator.on && not (v.mutator.lent == 0) then seat_joined (side_of v) given else impossible_view

-- what the mutator's seat knows after another was given back to it
abbrev pub taker_view : RuleView → RuleView → RuleView
taker_view v given = turned_to v (taken_back v given.marker)

-- the mutator's seat has looked again: its view is what it was, and marking goes on
pub record LooksAgain (before : RuleView) (after : Me (Unit {0}) RuleView) : Type 0 where
  pub owner : IsOwner after
  pub view : after.0 ≡ before
  pub on : before.mutator.on ≡ true
