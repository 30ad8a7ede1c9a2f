use Rattle.gc_graph.specs.May.{weakly_read}
use Rattle.heap_cycle.specs.Parts.{state_of}
use Rattle.heap_cycle.proofs.states.read.Given as goal

abbrev pub ghost-chosen : goal.ghost-chosen
ghost-chosen a = weakly_read (state_of a.about.now.parts.now) a.about.now.number
