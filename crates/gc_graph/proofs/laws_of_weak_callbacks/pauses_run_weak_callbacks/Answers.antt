use Rattle.gc_graph.proofs.WeakCallLaws.{pauses_run, calls_show_what_is_lost, weak_callbacks_meet_what_is_left}
use Rattle.gc_graph.proofs.laws_of_weak_callbacks.pauses_run_weak_callbacks.Goals as goal

pub returns-clause-runs : goal.returns-clause-runs
returns-clause-runs c = pauses_run

pub returns-clause-shows : goal.returns-clause-shows
returns-clause-shows c = calls_show_what_is_lost

pub returns-clause-meets : goal.returns-clause-meets
returns-clause-meets c = weak_callbacks_meet_what_is_left
