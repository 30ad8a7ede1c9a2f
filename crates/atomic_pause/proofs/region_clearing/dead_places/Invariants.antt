use Rattle.std.proofs.Common.{◌≡◌, ◌<◌, ◌+◌, ℕ, false, Some, get_or, length}
use Rattle.std.specs.Io.{StartsWith}
use Rattle.marker_core.specs.Bodies.{holds}
use Rattle.page_words.specs.Seat.{OnlyLooked}
use Rattle.cross_thread_region.specs.Histories.{weak_place}
use Rattle.atomic_pause.proofs.region_clearing.dead_places.Given as goal

abbrev pub invariant-loop-i : goal.invariant-loop-i
invariant-loop-i l = record {
  len : length l.dead ≡ 32;
  view : OnlyLooked l.initial.seat l.seat;
  looked : StartsWith l.seat.looked l.initial.seat.looked;
  told : (x p : ℕ) → x < l.i → weak_place l.held.history x ≡ Some p → holds l.initial.seat.marked p ≡ false → get_or l.dead x 0 ≡ p + 1;
  only : (x p : ℕ) → get_or l.dead x 0 ≡ p + 1 → holds l.initial.seat.marked p ≡ false;
}
