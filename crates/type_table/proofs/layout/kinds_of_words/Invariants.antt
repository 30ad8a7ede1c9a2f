use Rattle.std.proofs.Common.{◌≡◌, take}
use Rattle.type_table.specs.Layouts.{kinds_of_words}
use Rattle.type_table.proofs.layout.kinds_of_words.Given as goal

abbrev pub invariant-loop-kind : goal.invariant-loop-kind
invariant-loop-kind l = l.by_word.items ≡ kinds_of_words (take l.kind-index l.kinds)
