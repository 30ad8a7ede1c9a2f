use Rattle.gc_graph.proofs.CycleLaws.{hits_are_kept}
use Rattle.gc_graph.proofs.laws_of_cycles.hits_are_kept.Goals as goal

pub returns : goal.returns
returns c = hits_are_kept
