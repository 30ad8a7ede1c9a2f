use Rattle.gc_graph.proofs.ThreadLaws.{steps_leave_threads}
use Rattle.gc_graph.proofs.laws_of_threads.steps_leave_threads.Goals as goal

pub returns : goal.returns
returns c = steps_leave_threads
