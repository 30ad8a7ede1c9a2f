use Rattle.gc_graph.specs.Outcomes.{answered}
use Rattle.heap_cycle.proofs.states.answered.Given as goal

abbrev pub ghost-chosen : goal.ghost-chosen
ghost-chosen a = answered a.about.now.value
