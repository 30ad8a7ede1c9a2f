use Rattle.gc_graph.proofs.Histories.{runs_are_replayed}
use Rattle.gc_graph.proofs.laws.runs_are_replayed.Goals as goal

pub returns : goal.returns
returns c = runs_are_replayed
