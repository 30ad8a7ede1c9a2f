use Rattle.std.proofs.Common.{arith}
use Rattle.heap_script.proofs.TypeWords.{words_so_far}
use Rattle.heap_script.proofs.letters.field_words.Goals as goal

pub overflow_add-words : goal.overflow_add-words
overflow_add-words c = omega (arith, words_so_far c.args.kinds.now c.loop-kind.kind-index)
