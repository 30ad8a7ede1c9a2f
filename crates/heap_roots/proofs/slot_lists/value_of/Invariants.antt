use Rattle.std.proofs.Common.{None, get_or}
use Rattle.gc_graph.specs.Fields.{content_of}
use Rattle.heap_roots.proofs.slot_lists.value_of.Given as goal

abbrev pub ghost-chosen : goal.ghost-chosen
ghost-chosen a = content_of (get_or a.about.now.slots.now.value a.about.now.q None)
