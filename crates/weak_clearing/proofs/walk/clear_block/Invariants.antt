use Rattle.std.proofs.Common.{◌≡◌, ℕ, ◌<◌}
use Rattle.std.specs.Int.{bit_at}
use Rattle.std.specs.Io.{StartsWith}
use Rattle.page_words.specs.Seat.{OnlyLooked}
use Rattle.weak_clearing.proofs.BlockWalk.{is_passed}
use Rattle.weak_clearing.proofs.ObjectWalk.{cleared_where}
use Rattle.weak_clearing.proofs.walk.clear_block.Given as goal

abbrev pub invariant-loop-left : goal.invariant-loop-left
invariant-loop-left l = record {
  cleared : OnlyLooked (cleared_where l.handles l.fn.seat (is_passed l.block l.left)) l.seat;
  looked : StartsWith l.seat.looked l.fn.seat.looked;
  starts : (i : ℕ) → i < 64 → bit_at l.left i ≡ 1 → bit_at l.starts i ≡ 1;
}

abbrev pub decreases-loop-left : goal.decreases-loop-left
decreases-loop-left l = l.left
