use Rattle.std.proofs.Common.{◌∷◌}
use Rattle.heap_roots.proofs.stack_words.pushed.Given as goal

abbrev pub ghost-chosen : goal.ghost-chosen
ghost-chosen a = a.about.now.word.now.value ∷ a.about.now.words.now.value
