use Rattle.heap_cycle.specs.Changes.{with_taken}
use Rattle.heap_cycle.proofs.states.taken.Given as goal

abbrev pub ghost-chosen : goal.ghost-chosen
ghost-chosen a = with_taken a.about.now.before.now.value a.about.now.parts.now.region.taken a.about.now.parts.now.cycle.rest
