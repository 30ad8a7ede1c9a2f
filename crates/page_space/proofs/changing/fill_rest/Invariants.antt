use Rattle.std.proofs.Common.{◌≡◌, ◌-◌}
use Rattle.page_space.specs.Occupying.{nulled}
use Rattle.page_space.proofs.changing.fill_rest.Given as goal

abbrev pub invariant-loop-x : goal.invariant-loop-x
invariant-loop-x l = l.seat ≡ nulled l.fn.seat l.first (l.x - l.first)
