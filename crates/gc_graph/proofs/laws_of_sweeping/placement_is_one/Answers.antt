use Rattle.gc_graph.proofs.SweepLaws.{placement_is_one}
use Rattle.gc_graph.proofs.laws_of_sweeping.placement_is_one.Goals as goal

pub returns : goal.returns
returns c = placement_is_one
