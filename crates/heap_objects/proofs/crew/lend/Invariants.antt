use Rattle.std.proofs.Common.{◌≡◌, replicate, vec_capacity}
use Rattle.page_words.specs.Markers.{new_marker}
use Rattle.heap_objects.specs.Crews.{lent_often}
use Rattle.heap_objects.proofs.crew.lend.Given as goal

abbrev pub invariant-loop-seat : goal.invariant-loop-seat
invariant-loop-seat l = record {
  lent : l.seat ≡ lent_often l._seat l.initial.seat;
  seats : l.seats.items ≡ replicate l._seat (new_marker l.initial.seat);
  room : vec_capacity l.seats ≡ vec_capacity l.initial.seats;
}
