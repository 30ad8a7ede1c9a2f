use Rattle.gc_graph.specs.declared.kind.Value.TheVariants.{Word}
use Rattle.heap_objects.proofs.content.number_value.Given as goal

abbrev pub ghost-chosen : goal.ghost-chosen
ghost-chosen a = Word a.about.now
