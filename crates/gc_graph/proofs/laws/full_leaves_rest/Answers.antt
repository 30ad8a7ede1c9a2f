use Rattle.gc_graph.proofs.FullHeaps.{full_leaves_rest}
use Rattle.gc_graph.proofs.laws.full_leaves_rest.Goals as goal

pub returns : goal.returns
returns c = full_leaves_rest
