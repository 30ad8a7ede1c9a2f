use Rattle.std.proofs.Common.{rules}
use Rattle.mark_worklist.proofs.Steps.{pops-one, finds-none, follows}
use Rattle.mark_worklist.proofs.ends.OwnEnd.take.Goals as goal

pub pop_as-requires-clause-fifo : goal.pop_as-requires-clause-fifo
pop_as-requires-clause-fifo c = λ _. pops-one _ _ c.self.invariant.1

pub pop_as-requires-clause-empty : goal.pop_as-requires-clause-empty
pop_as-requires-clause-empty c = finds-none _ _

pub returns-clause-taken : goal.returns-clause-taken
returns-clause-taken c = follows c.pop_as.result _ _ _ _ (λ h. (search rules)) (λ a h. search rules) c.pop_as.ensures.rule
