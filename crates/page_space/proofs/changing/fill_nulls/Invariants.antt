use Rattle.std.proofs.Common.{◌≡◌, ◌-◌, ◌≤◌}
use Rattle.page_space.specs.Occupying.{nulled}
use Rattle.page_space.proofs.changing.fill_nulls.Given as goal

abbrev pub invariant-loop-x : goal.invariant-loop-x
invariant-loop-x l = record {
  seat : l.seat ≡ nulled l.fn.seat l.first (l.x - l.first);
  low : l.first ≤ l.x;
  high : l.x ≤ l.end;
}

abbrev pub decreases-loop-x : goal.decreases-loop-x
decreases-loop-x l = l.end - l.x
