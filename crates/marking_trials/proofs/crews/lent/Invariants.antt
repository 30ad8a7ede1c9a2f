use Rattle.std.proofs.Common.{◌≡◌, ◌≤◌, true, replicate, vec_capacity}
use Rattle.page_words.specs.Markers.{new_marker}
use Rattle.marking_trials.proofs.crews.lent.Given as goal

abbrev pub invariant-loop-marker : goal.invariant-loop-marker
invariant-loop-marker l = record {
  heap : l.seat.heap ≡ l.fn.seat.heap;
  types : l.seat.types ≡ l.fn.seat.types;
  on : l.seat.on ≡ true;
  bodies : l.seat.bodies ≡ l.fn.seat.bodies;
  made : l.made.items ≡ replicate l._marker (new_marker l.fn.seat);
  room : l.count ≤ vec_capacity l.made;
}
