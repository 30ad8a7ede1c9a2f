use Rattle.heap_cycle.specs.Changes.{paused_from, with_taken}
use Rattle.heap_cycle.proofs.states.paused.Given as goal

abbrev pub ghost-chosen : goal.ghost-chosen
ghost-chosen a = paused_from (with_taken a.about.now.before.now.value a.about.now.region.now.taken a.about.now.rest.now.value)
