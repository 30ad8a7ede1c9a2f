use Rattle.std.proofs.Common.{None, get_or, set}
use Rattle.heap_roots.proofs.slot_lists.copied.Given as goal

abbrev pub ghost-chosen : goal.ghost-chosen
ghost-chosen a = set a.about.now.into.now.value a.about.now.q (get_or a.about.now.from.now.value a.about.now.p None)
