use Rattle.heap_cycle.specs.Changes.{begun_from}
use Rattle.heap_cycle.specs.Parts.{state_of}
use Rattle.heap_cycle.proofs.states.begun.Given as goal

abbrev pub ghost-chosen : goal.ghost-chosen
ghost-chosen a = begun_from (state_of a.about.now)
