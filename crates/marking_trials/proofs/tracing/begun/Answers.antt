use Rattle.std.proofs.Common.{refl}
use Rattle.marking_trials.proofs.tracing.begun.Goals as goal

pub returns-clause-list : goal.returns-clause-list
returns-clause-list c = (c.in-Ok.ensures.alone refl).0
