use Rattle.gc_graph.proofs.SweepLaws.{sweeps_join, sweeps_split, sweep_is_one}
use Rattle.gc_graph.proofs.laws_of_sweeping.sweeps_go_by_pages.Goals as goal

pub returns : goal.returns
returns c = record { join = sweeps_join; split = sweeps_split; one = sweep_is_one }
