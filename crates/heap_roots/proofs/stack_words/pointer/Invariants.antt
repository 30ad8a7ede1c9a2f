use Rattle.std.proofs.Common.{None, get_or}
use Rattle.heap_roots.specs.Stack.{pointer_into}
use Rattle.heap_roots.proofs.stack_words.pointer.Given as goal

abbrev pub ghost-chosen : goal.ghost-chosen
ghost-chosen a = pointer_into (get_or a.about.now.slots.now.value a.about.now.p None) a.about.now.offset
