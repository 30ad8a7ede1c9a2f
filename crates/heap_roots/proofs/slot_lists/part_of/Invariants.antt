use Rattle.std.proofs.Common.{None, get_or}
use Rattle.gc_graph.specs.ObjectSteps.{part_of}
use Rattle.heap_roots.proofs.slot_lists.part_of.Given as goal

abbrev pub ghost-chosen : goal.ghost-chosen
ghost-chosen a = part_of (get_or a.about.now.slots.now.value a.about.now.q None) (get_or a.about.now.slots.now.value a.about.now.other None)
