-- The steps of the mutator that begin and end marking, and lend and take back a marker's view.
use Rattle.std.specs.Prelude.{ℕ, ◌+◌, ◌-◌, ◌==◌, ◌&&◌, ◌||◌, not, Bool, List, [], ◌∷◌, ◌++◌, filter, slice_set}
use Rattle.std.specs.Option.{is_none}
use Rattle.std.specs.List.{list_all}
use Rattle.marker_core.specs.declared.states.CoreState.{CoreState}
use Rattle.marker_core.specs.Layout.{stop_at, is_marked, is_traced}
use Rattle.marker_core.specs.Bodies.{places}
use Rattle.marker_core.specs.Closed.{closes_over}
use Rattle.marker_core.specs.Views.{fresh_view, spent_view, view_at}
use Rattle.marker_core.specs.Seats.{seat_of}
use Rattle.marker_core.specs.SeatSteps.{seat_can_begin, seat_begun, ended_with}

-- ---- marking begins

-- the seat may begin marking
abbrev pub can_begin : CoreState → Bool
can_begin s = seat_can_begin (seat_of s)

-- the state in which marking has begun from these roots
abbrev pub core_begun : CoreState → List ℕ → CoreState
core_begun s roots = record s { words = slice_set s.words (stop_at s.count) 0; mutator = seat_begun (seat_of s) roots }

-- ---- the markers are told to stop, and marking ends where none is out

-- the stop word is set
abbrev pub core_stopped : CoreState → CoreState
core_stopped s = record s { words = slice_set s.words (stop_at s.count) 1 }

-- the stop ends marking: it goes on, and no view is lent
abbrev pub ends : CoreState → Bool
ends s = s.mutator.on && (s.mutator.lent == 0)

-- no hand, nothing that waits for its mark, no grey body, and what is marked is closed
abbrev pub can_end : CoreState → Bool
can_end s =
    is_none s.mutator.hand
    && is_none s.mutator.pending
    && list_all (λ a. not (is_marked s.words a) || is_traced s.words a) (places s.mutator.bodies)
    && closes_over s.types (is_marked s.words) s.mutator.bodies

-- the places of the bodies without a mark
abbrev pub core_unmarked_places : CoreState → List ℕ
core_unmarked_places s = filter (λ a. not (is_marked s.words a)) (places s.mutator.bodies)

-- the state in which marking has ended, and what has no mark is dead
abbrev pub core_ended : CoreState → CoreState
core_ended s = record s {
  words = slice_set s.words (stop_at s.count) 1;
  mutator = ended_with (seat_of s) (core_unmarked_places s);
}

-- ---- a view is lent, and given back

-- a view is lent only while marking goes on
abbrev pub can_split : CoreState → Bool
can_split s = s.mutator.on

-- one view more is lent
abbrev pub split : CoreState → CoreState
split s = record s {
  mutator = record s.mutator { lent = s.mutator.lent + 1 };
  markers = s.markers ++ fresh_view ∷ [];
}

-- the view was not given back before, and has no hand
abbrev pub can_join : CoreState → ℕ → Bool
can_join s marker = let v = view_at s.markers marker in not v.spent && is_none v.hand

-- what the view knows has become the mutator's, and the view is spent
abbrev pub core_joined : CoreState → ℕ → CoreState
core_joined s marker =
    let v = view_at s.markers marker in
    record s {
      mutator = record s.mutator {
        marked = s.mutator.marked ++ v.marked;
        traced = s.mutator.traced ++ v.traced;
        noted = s.mutator.noted ++ v.noted;
        done = s.mutator.done ++ v.done;
        missed = s.mutator.missed ++ v.missed;
        lent = s.mutator.lent - 1;
      };
      markers = slice_set s.markers marker spent_view;
    }
