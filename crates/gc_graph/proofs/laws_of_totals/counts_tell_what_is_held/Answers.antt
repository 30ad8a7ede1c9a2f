use Rattle.gc_graph.proofs.HeldLaws.{stats_tell_what_is_held, ends_tell_what_is_held}
use Rattle.gc_graph.proofs.laws_of_totals.counts_tell_what_is_held.Goals as goal

pub returns-clause-stats : goal.returns-clause-stats
returns-clause-stats c = stats_tell_what_is_held

pub returns-clause-ends : goal.returns-clause-ends
returns-clause-ends c = ends_tell_what_is_held
