use Rattle.gc_graph.specs.declared.kind.Value.TheVariants.{Null}
use Rattle.heap_objects.proofs.content.null_value.Given as goal

abbrev pub ghost-chosen : goal.ghost-chosen
ghost-chosen a = Null
