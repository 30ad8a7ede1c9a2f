use Rattle.std.proofs.Common.{arith}
use Rattle.type_table.proofs.Offsets.{words_so_far}
use Rattle.type_table.proofs.layout.field_words.Goals as goal

pub overflow_add-words : goal.overflow_add-words
overflow_add-words c = omega (arith, words_so_far c.args.kinds.now c.loop-kind.kind-index)
