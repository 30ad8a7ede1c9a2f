use Rattle.gc_graph.proofs.CycleLaws.{steps_tell_what_is_left}
use Rattle.gc_graph.proofs.laws_of_cycles.steps_tell_what_is_left.Goals as goal

pub returns : goal.returns
returns c = steps_tell_what_is_left
