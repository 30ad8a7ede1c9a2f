use Rattle.gc_graph.proofs.Histories.{replies_are_of_one_thread}
use Rattle.gc_graph.proofs.laws.replies_are_of_one_thread.Goals as goal

pub returns : goal.returns
returns c = replies_are_of_one_thread
