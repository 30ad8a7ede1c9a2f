use Rattle.std.proofs.Common.{◌*◌, ◌≡◌, ◌≤◌}
use Rattle.page_space.specs.Space.{HasNoStart}
use Rattle.page_space.proofs.space.Space.last_start.Given as goal

abbrev pub invariant-loop-word : goal.invariant-loop-word
invariant-loop-word l = record {
  view : l.seat ≡ l.fn.seat;
  high : l.word ≤ l.end;
  none : HasNoStart l.fn.seat.bodies (64 * l.word) (64 * l.end);
}

abbrev pub decreases-loop-word : goal.decreases-loop-word
decreases-loop-word l = l.word
