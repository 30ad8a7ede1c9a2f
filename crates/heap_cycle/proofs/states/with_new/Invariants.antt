use Rattle.heap_cycle.specs.Changes.{with_new}
use Rattle.heap_cycle.proofs.states.with_new.Given as goal

abbrev pub ghost-chosen : goal.ghost-chosen
ghost-chosen a = with_new a.about.now.phase a.about.now.rest.now.value
