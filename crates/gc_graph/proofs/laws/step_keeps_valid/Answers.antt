use Rattle.gc_graph.proofs.ValidSteps.{step_keeps_valid}
use Rattle.gc_graph.proofs.laws.step_keeps_valid.Goals as goal

pub returns : goal.returns
returns c = step_keeps_valid
