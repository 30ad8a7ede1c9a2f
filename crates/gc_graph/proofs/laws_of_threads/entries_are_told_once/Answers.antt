use Rattle.gc_graph.proofs.JoinLaws.{entries_are_told_once}
use Rattle.gc_graph.proofs.laws_of_threads.entries_are_told_once.Goals as goal

pub returns : goal.returns
returns c = entries_are_told_once
