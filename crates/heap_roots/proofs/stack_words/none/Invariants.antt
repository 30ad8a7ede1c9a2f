use Rattle.std.proofs.Common.{[]}
use Rattle.heap_roots.proofs.stack_words.none.Given as goal

abbrev pub ghost-chosen : goal.ghost-chosen
ghost-chosen a = []
