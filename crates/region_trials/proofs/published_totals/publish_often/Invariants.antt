use Rattle.std.specs.Prelude.{◌≡◌, ◌≤◌, ◌+◌}
use Rattle.region_trials.proofs.published_totals.publish_often.Given as goal

abbrev pub invariant-loop-i : goal.invariant-loop-i
invariant-loop-i g l = (l.publisher.board ≡ l.fn.board) × (l.publisher.last.ordinal ≤ l.fn.behind + l.i)
