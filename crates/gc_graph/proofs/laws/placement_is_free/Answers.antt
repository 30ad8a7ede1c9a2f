use Rattle.gc_graph.proofs.Places.{placement_is_free}
use Rattle.gc_graph.proofs.laws.placement_is_free.Goals as goal

pub returns : goal.returns
returns c = placement_is_free
