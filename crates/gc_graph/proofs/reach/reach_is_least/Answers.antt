use Rattle.gc_graph.proofs.Reaching.{reach_law}
use Rattle.gc_graph.proofs.reach.reach_is_least.Goals as goal

pub returns : goal.returns
returns c = reach_law
