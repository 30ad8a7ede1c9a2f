use Rattle.gc_graph.specs.State.StackWord.{Number}
use Rattle.heap_roots.proofs.stack_words.number.Given as goal

abbrev pub ghost-chosen : goal.ghost-chosen
ghost-chosen a = Number a.about.now
