use Rattle.heap_cycle.specs.Changes.{traced_more}
use Rattle.heap_cycle.proofs.states.traced.Given as goal

abbrev pub ghost-chosen : goal.ghost-chosen
ghost-chosen a = traced_more a.about.now.count a.about.now.rest.now.value
