use Rattle.heap_cycle.specs.Parts.{moment_of}
use Rattle.heap_cycle.proofs.states.moment.Given as goal

abbrev pub ghost-chosen : goal.ghost-chosen
ghost-chosen a = moment_of a.about.now
