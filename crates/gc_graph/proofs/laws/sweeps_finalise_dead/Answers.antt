use Rattle.gc_graph.proofs.Sweeps.{sweeps_finalise_dead}
use Rattle.gc_graph.proofs.laws.sweeps_finalise_dead.Goals as goal

pub returns : goal.returns
returns c = sweeps_finalise_dead
