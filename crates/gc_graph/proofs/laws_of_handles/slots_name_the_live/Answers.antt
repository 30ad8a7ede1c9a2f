use Rattle.gc_graph.proofs.WeakLives.{slots_name_the_live}
use Rattle.gc_graph.proofs.laws_of_handles.slots_name_the_live.Goals as goal

pub returns : goal.returns
returns c = slots_name_the_live
