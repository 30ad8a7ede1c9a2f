use Rattle.gc_graph.proofs.ValidSteps.{orders_keep_valid}
use Rattle.gc_graph.proofs.laws.orders_keep_valid.Goals as goal

pub returns : goal.returns
returns c = orders_keep_valid
