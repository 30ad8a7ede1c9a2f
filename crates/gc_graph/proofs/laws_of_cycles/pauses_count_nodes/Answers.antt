use Rattle.gc_graph.proofs.PauseCounts.{pauses_count_nodes}
use Rattle.gc_graph.proofs.laws_of_cycles.pauses_count_nodes.Goals as goal

pub returns : goal.returns
returns c = pauses_count_nodes
