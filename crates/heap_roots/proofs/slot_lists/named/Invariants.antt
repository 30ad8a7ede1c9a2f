use Rattle.std.proofs.Common.{None, get_or}
use Rattle.heap_roots.proofs.slot_lists.named.Given as goal

abbrev pub ghost-chosen : goal.ghost-chosen
ghost-chosen a = get_or a.about.now.slots.now.value a.about.now.q None
