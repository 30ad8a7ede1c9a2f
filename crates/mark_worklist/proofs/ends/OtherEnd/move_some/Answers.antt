use Rattle.std.proofs.Common.{rules}
use Rattle.mark_worklist.proofs.Steps.{moves-batch, brings-some}
use Rattle.mark_worklist.proofs.ends.OtherEnd.move_some.Goals as goal

pub steal_batch_as-requires-clause-takes : goal.steal_batch_as-requires-clause-takes
steal_batch_as-requires-clause-takes c = moves-batch _ _ _ (search rules)

pub steal_batch_as-requires-clause-pushes : goal.steal_batch_as-requires-clause-pushes
steal_batch_as-requires-clause-pushes c = λ xs w then. brings-some _ _ _ c.own.invariant.1
