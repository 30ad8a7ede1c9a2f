use Rattle.gc_graph.proofs.CycleLaws.{finish_counts_once, now_counts_once}
use Rattle.gc_graph.proofs.laws_of_cycles.pauses_count_once.Goals as goal

pub returns-clause-finish : goal.returns-clause-finish
returns-clause-finish c = finish_counts_once

pub returns-clause-now : goal.returns-clause-now
returns-clause-now c = now_counts_once
