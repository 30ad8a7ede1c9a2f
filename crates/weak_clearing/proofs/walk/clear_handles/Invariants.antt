use Rattle.std.proofs.Common.{◌*◌, ltb}
use Rattle.std.specs.Io.{StartsWith}
use Rattle.page_words.specs.Seat.{OnlyLooked}
use Rattle.weak_clearing.proofs.ObjectWalk.{cleared_where}
use Rattle.weak_clearing.proofs.walk.clear_handles.Given as goal

abbrev pub invariant-loop-block : goal.invariant-loop-block
invariant-loop-block l = record {
  cleared : OnlyLooked (cleared_where l.handles l.fn.seat (λ a. ltb a (64 * l.block))) l.seat;
  looked : StartsWith l.seat.looked l.fn.seat.looked;
}
