use Rattle.gc_graph.proofs.ThreadLaws.{steps_count}
use Rattle.gc_graph.proofs.laws_of_threads.steps_count.Goals as goal

pub returns : goal.returns
returns c = steps_count
