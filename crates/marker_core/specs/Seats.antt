-- The mutator's side of a state: how many words the heap has, the types of its objects, and the mutator's view.
use Rattle.std.specs.Prelude.{ℕ, List}
use Rattle.gc_graph.specs.declared.kind.Kind.{Kind}
use Rattle.marker_core.specs.declared.states.CoreState.{CoreState}
use Rattle.marker_core.specs.declared.states.MutatorView.{MutatorView}
use Rattle.marker_core.specs.declared.states.MarkerView.{MarkerView}

-- so many words, these types and this view; what stands in the view is told of the side too
pub record SeatSide : Type 0 where
  pub count : ℕ
  pub types : List (List Kind)
  pub mutator : MutatorView
  pub open mutator use *

-- the mutator's side of a state
abbrev pub seat_of : CoreState → SeatSide
seat_of s = record { count = s.count; types = s.types; mutator = s.mutator }

-- the state with these words and these views of markers
abbrev pub core_of : SeatSide → List ℕ → List MarkerView → CoreState
core_of v words markers = record { count = v.count; types = v.types; words = words; mutator = v.mutator; markers = markers }

-- the side after the mutator's view has changed
abbrev pub with_view : SeatSide → MutatorView → SeatSide
with_view v m = record v { mutator = m }
