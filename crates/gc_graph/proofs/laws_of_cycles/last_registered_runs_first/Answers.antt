use Rattle.gc_graph.proofs.CycleLaws.{last_registered_runs_first}
use Rattle.gc_graph.proofs.laws_of_cycles.last_registered_runs_first.Goals as goal

pub returns : goal.returns
returns c = last_registered_runs_first
