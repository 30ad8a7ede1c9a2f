use Rattle.gc_graph.proofs.CycleLaws.{cycles_go_in_order}
use Rattle.gc_graph.proofs.laws_of_cycles.cycles_go_in_order.Goals as goal

pub returns : goal.returns
returns c = cycles_go_in_order
