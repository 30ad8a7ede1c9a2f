use Rattle.gc_graph.proofs.PrefinalizerLaws.{pauses_run_those_of_the_dead, callbacks_meet_what_is_left}
use Rattle.gc_graph.proofs.laws_of_prefinalizers.pauses_run_prefinalizers.Goals as goal

pub returns-clause-runs : goal.returns-clause-runs
returns-clause-runs c = pauses_run_those_of_the_dead

pub returns-clause-meets : goal.returns-clause-meets
returns-clause-meets c = callbacks_meet_what_is_left
