use Rattle.std.proofs.Common.{◌≡◌, not}
use Rattle.std.specs.Io.{StartsWith}
use Rattle.marker_core.specs.Bodies.{holds}
use Rattle.page_words.specs.Seat.{OnlyLooked}
use Rattle.weak_clearing.proofs.InTurn.{clear_first}
use Rattle.weak_clearing.proofs.slots.clear_slots.Given as goal

abbrev pub invariant-loop-i : goal.invariant-loop-i
invariant-loop-i l = record {
  cleared : l.weak ≡ clear_first (λ a. not (holds l.initial.seat.marked a)) l.i l.initial.weak;
  view : OnlyLooked l.initial.seat l.seat;
  looked : StartsWith l.seat.looked l.initial.seat.looked;
}
