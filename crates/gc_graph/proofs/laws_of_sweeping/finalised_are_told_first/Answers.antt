use Rattle.gc_graph.proofs.LineOrders.{finalised_are_told_first}
use Rattle.gc_graph.proofs.laws_of_sweeping.finalised_are_told_first.Goals as goal

pub returns : goal.returns
returns c = finalised_are_told_first
