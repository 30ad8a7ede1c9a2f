use Rattle.std.proofs.Common.{◌+◌, ◌*◌, sym, ap, ◌∙◌, arith}
use Rattle.std.proofs.lemmas.Bool.{not-true}
use Rattle.line_words.proofs.ShortNumbers.{one_digit, two_digits, three_digits, short_number}
use Rattle.line_words.proofs.numerals.short_number.Goals as goal

pub returns-then-is_gap : goal.returns-then-is_gap
returns-then-is_gap c =
    let digit = sym c.is_decimal.ensures ∙ c.if-not-is_decimal.false in
    short_number _ _ _ _ c.if-bytes-from-ne32.false digit
    (one_digit c.args.bytes.now c.args.from _ (omega arith) digit c.from-one.ensures)
    (omega arith) (omega arith) (λ more e. omega (arith, more)) (not-true _ (sym c.is_gap.ensures ∙ c.if-is_gap.true))

pub returns-then-is_gap-2 : goal.returns-then-is_gap-2
returns-then-is_gap-2 c =
    let first = sym c.is_decimal.ensures ∙ c.if-not-is_decimal.false in
    let second = sym c.is_decimal-else-bytes-from-eq48.ensures ∙ c.if-not-is_decimal-2.false in
    short_number _ _ _ _ c.if-bytes-from-ne32.false first
    (two_digits c.args.bytes.now c.args.from c.from-one.result _ (omega arith) first second c.from-one.ensures
    (ap (λ digit. c.from-one.result * 10 + digit) c.from.ensures))
    (omega arith) (omega arith) (λ more. c.if-bytes-from-eq48.false)
    (not-true _ (sym c.is_gap-2.ensures ∙ c.if-is_gap-2.true))

pub returns : goal.returns
returns c =
    let first = sym c.is_decimal.ensures ∙ c.if-not-is_decimal.false in
    let second = sym c.is_decimal-else-bytes-from-eq48.ensures ∙ c.if-not-is_decimal-2.false in
    let third = sym c.is_decimal-2.ensures ∙ c.if-not-is_decimal-3.false in
    short_number _ _ _ _ c.if-bytes-from-ne32.false first
    (three_digits c.args.bytes.now c.args.from c.from-one.result (c.from-one.result * 10 + c.from.result) _ (omega arith) first second third
    c.from-one.ensures (ap (λ digit. c.from-one.result * 10 + digit) c.from.ensures)
    (ap (λ digit. (c.from-one.result * 10 + c.from.result) * 10 + digit) c.from-2.ensures))
    (omega arith) (omega arith) (λ more. c.if-bytes-from-eq48.false)
    (not-true _ (sym c.is_gap-else-not-is_decimal-3.ensures ∙ c.if-not-is_gap.false))
