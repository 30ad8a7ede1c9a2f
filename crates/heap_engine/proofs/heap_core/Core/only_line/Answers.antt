use Rattle.std.proofs.Common.{arith}
use Rattle.heap_engine.proofs.ThreadsTold.{joined_long}
use Rattle.heap_engine.proofs.heap_core.Core.only_line.Goals as goal

pub returns-then-told_count-gt0-clause-none : goal.returns-then-told_count-gt0-clause-none
returns-then-told_count-gt0-clause-none c =
    rw (← c.self.view_is)
    (joined_long c.self.inside.parts.region.told c.self.inside.outcome c.self.inside.parts.cycle.ran (omega (arith, c.if-told_count-gt0.true, c.told_count.ensures.count)) c.self.invariant.joined)
