use Rattle.gc_graph.proofs.EntryMakers.{entries_are_of_their_threads}
use Rattle.gc_graph.proofs.laws_of_threads.entries_are_of_their_threads.Goals as goal

pub returns : goal.returns
returns c = entries_are_of_their_threads
