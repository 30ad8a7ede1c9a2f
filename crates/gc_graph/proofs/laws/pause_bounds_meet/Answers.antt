use Rattle.gc_graph.proofs.MayLaws.{pause_bounds_meet}
use Rattle.gc_graph.proofs.laws.pause_bounds_meet.Goals as goal

pub returns : goal.returns
returns c = pause_bounds_meet
