use Rattle.gc_graph.proofs.OwnEntries.{steps_make_own_entries}
use Rattle.gc_graph.proofs.laws_of_threads.steps_make_own_entries.Goals as goal

pub returns : goal.returns
returns c = steps_make_own_entries
