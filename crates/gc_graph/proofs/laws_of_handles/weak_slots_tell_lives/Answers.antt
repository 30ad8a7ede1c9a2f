use Rattle.gc_graph.proofs.WeakLives.{weak_slots_tell_lives}
use Rattle.gc_graph.proofs.laws_of_handles.weak_slots_tell_lives.Goals as goal

pub returns : goal.returns
returns c = weak_slots_tell_lives
