use Rattle.heap_cycle.specs.Changes.{swept_to}
use Rattle.heap_cycle.proofs.states.swept.Given as goal

abbrev pub ghost-chosen : goal.ghost-chosen
ghost-chosen a = swept_to a.about.now.pages a.about.now.count a.about.now.rest.now.value
