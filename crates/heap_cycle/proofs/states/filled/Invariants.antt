use Rattle.heap_cycle.specs.Changes.{filled}
use Rattle.heap_cycle.proofs.states.filled.Given as goal

abbrev pub ghost-chosen : goal.ghost-chosen
ghost-chosen a = filled a.about.now.value
