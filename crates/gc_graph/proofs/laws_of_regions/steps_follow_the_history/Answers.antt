use Rattle.gc_graph.proofs.StepFollows.{steps_follow}
use Rattle.gc_graph.proofs.laws_of_regions.steps_follow_the_history.Goals as goal

pub returns : goal.returns
returns c = steps_follow
