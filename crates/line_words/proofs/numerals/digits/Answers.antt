use Rattle.std.proofs.Common.{sym, ◌*◌, ◌+◌, subst}
use Rattle.line_words.specs.Cursor.{IsDigits}
use Rattle.line_words.proofs.ShortNumbers.{digits_none, digit_more}
use Rattle.line_words.proofs.numerals.digits.Goals as goal

pub loop-value-init : goal.loop-value-init
loop-value-init c = digits_none c.args.bytes.now c.args.start c.requires

pub loop-value-preserved : goal.loop-value-preserved
loop-value-preserved c =
    subst (λ d. IsDigits c.args.bytes.now c.args.start (c.loop-value.place + 1) (c.loop-value.value * 10 + d)) (sym c.from.ensures)
    (digit_more c.args.bytes.now c.args.start c.loop-value.place c.loop-value.value c.loop-value.invariant c.loop-value-test.true c.if-place-bytes.true
    c.if-bytes-place-ge48.true c.if-bytes-place-le57.true)
