use Rattle.std.proofs.Common.{arith}
use Rattle.type_table.proofs.Offsets.{offset_few}
use Rattle.type_table.proofs.traced.traced_words_of.Goals as goal

pub overflow_add-next : goal.overflow_add-next
overflow_add-next c = omega (arith, offset_few c.args.kinds.now c.loop-kind.kind-index (omega arith))
