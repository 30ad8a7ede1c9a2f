use Rattle.gc_graph.proofs.KeptBounds.{kept_is_accounted_for}
use Rattle.gc_graph.proofs.ValidSteps.{step_keeps_valid}
use Rattle.gc_graph.proofs.laws_of_marking.kept_is_accounted_for.Goals as goal

pub returns : goal.returns
returns c = kept_is_accounted_for step_keeps_valid
