use Rattle.gc_graph.proofs.Refusals.{memory_leaves_all}
use Rattle.gc_graph.proofs.laws.memory_leaves_all.Goals as goal

pub returns : goal.returns
returns c = memory_leaves_all
