use Rattle.std.proofs.Common.{replicate, None}
use Rattle.heap_roots.proofs.slot_lists.null.Given as goal

abbrev pub ghost-chosen : goal.ghost-chosen
ghost-chosen a = replicate a.about.now None
