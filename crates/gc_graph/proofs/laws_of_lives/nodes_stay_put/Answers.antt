use Rattle.gc_graph.proofs.OnceLaws.{nodes_stay_put}
use Rattle.gc_graph.proofs.laws_of_lives.nodes_stay_put.Goals as goal

pub returns : goal.returns
returns c = nodes_stay_put
