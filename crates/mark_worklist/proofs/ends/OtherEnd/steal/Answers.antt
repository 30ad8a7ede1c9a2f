use Rattle.std.proofs.Common.{rules}
use Rattle.mark_worklist.proofs.Steps.{takes-some, finds-few}
use Rattle.mark_worklist.proofs.ends.OtherEnd.steal.Goals as goal

pub steal_as-requires-clause-takes : goal.steal_as-requires-clause-takes
steal_as-requires-clause-takes c = takes-some _ _ 1 (search rules)

pub steal_as-requires-clause-empty : goal.steal_as-requires-clause-empty
steal_as-requires-clause-empty c = rw (c.loop-try.invariant.flavor) (finds-few _ _)
