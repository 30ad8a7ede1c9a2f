use Rattle.mark_worklist.proofs.Steps.{puts-one}
use Rattle.mark_worklist.proofs.ends.OwnEnd.put.Goals as goal

pub push_as-requires-clause-pushes : goal.push_as-requires-clause-pushes
push_as-requires-clause-pushes c = puts-one _ _ _ c.self.invariant.1
