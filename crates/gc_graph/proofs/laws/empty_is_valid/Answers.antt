use Rattle.gc_graph.proofs.ValidSteps.{empty_is_valid}
use Rattle.gc_graph.proofs.laws.empty_is_valid.Goals as goal

pub returns : goal.returns
returns c = empty_is_valid
