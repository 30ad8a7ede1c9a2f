use Rattle.std.proofs.Common.{arith, sym}
use Rattle.line_words.proofs.Values.{number_read}
use Rattle.line_words.proofs.numbers.number.Goals as goal

pub returns : goal.returns
returns c =
    number_read _ _ c.loop-byte.byte-index (sym c.if-is_empty.ensures) (sym c.if-begins_in_vain.ensures) c.loop-byte.invariant.small (omega arith)
    c.loop-byte.invariant.value c.loop-byte.invariant.digits
