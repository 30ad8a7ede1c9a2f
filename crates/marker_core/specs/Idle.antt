-- The state with which all begins.
use Rattle.std.specs.Prelude.{ℕ, ◌+◌, false, List, [], None, replicate}
use Rattle.gc_graph.specs.declared.kind.Kind.{Kind}
use Rattle.marker_core.specs.declared.states.CoreState.{CoreState}
use Rattle.marker_core.specs.declared.states.MutatorView.{MutatorView}
use Rattle.marker_core.specs.Layout.{stop_at}

-- the view of a mutator that has seen nothing
abbrev pub idle_view : MutatorView
idle_view = record {
  bodies = [];
  dead = [];
  on = false;
  pending = None;
  may = [];
  seen = [];
  marked = [];
  traced = [];
  noted = [];
  hand = None;
  lent = 0;
  filled = [];
  looked = [];
  early = 0;
  done = [];
  missed = [];
}

-- all words are 0, nothing is published, and there is no marker
abbrev pub idle_state : ℕ → List (List Kind) → CoreState
idle_state count types = record {
  count = count;
  types = types;
  words = replicate (stop_at count + 1) 0;
  mutator = idle_view;
  markers = [];
}
