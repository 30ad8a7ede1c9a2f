use Rattle.gc_graph.proofs.ClearingLaws.{clears_nothing_else}
use Rattle.gc_graph.proofs.laws_of_cycles.weak_clearing_spares_the_live.Goals as goal

pub returns : goal.returns
returns c = clears_nothing_else
