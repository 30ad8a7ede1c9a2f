use Rattle.mark_worklist.proofs.Steps.{joins}
use Rattle.mark_worklist.proofs.ends.OwnEnd.join.Goals as goal

pub absorb-requires-clause-rule : goal.absorb-requires-clause-rule
absorb-requires-clause-rule c = joins _ _ _ _ c.self.invariant.1
