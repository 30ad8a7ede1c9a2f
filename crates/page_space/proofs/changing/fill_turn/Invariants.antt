use Rattle.std.proofs.Common.{◌≡◌}
use Rattle.page_space.specs.Occupying.{nulled}
use Rattle.page_space.proofs.changing.fill_turn.Given as goal

abbrev pub invariant-loop-i : goal.invariant-loop-i
invariant-loop-i l = l.seat ≡ nulled l.fn.seat l.first l.i
