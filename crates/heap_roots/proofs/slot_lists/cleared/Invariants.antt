use Rattle.std.proofs.Common.{map}
use Rattle.gc_graph.specs.Pause.{is_dead_at, clear_slot}
use Rattle.heap_roots.proofs.slot_lists.cleared.Given as goal

abbrev pub ghost-chosen : goal.ghost-chosen
ghost-chosen a = map (clear_slot (is_dead_at a.about.now.objects.now.nodes)) a.about.now.weak.now.value
