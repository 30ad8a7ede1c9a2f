use Rattle.gc_graph.specs.State.{empty_state}
use Rattle.heap_cycle.proofs.states.empty.Given as goal

abbrev pub ghost-chosen : goal.ghost-chosen
ghost-chosen a = empty_state
