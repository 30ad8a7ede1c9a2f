use Rattle.gc_graph.proofs.SlotsLaws.{runs_keep_slots}
use Rattle.gc_graph.proofs.laws_of_threads.runs_keep_slots.Goals as goal

pub returns : goal.returns
returns c = runs_keep_slots
