use Rattle.std.proofs.Common.{drop}
use Rattle.heap_roots.proofs.stack_words.popped.Given as goal

abbrev pub ghost-chosen : goal.ghost-chosen
ghost-chosen a = drop 1 a.about.now.value
