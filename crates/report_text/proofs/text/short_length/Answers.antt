use Rattle.std.proofs.Common.{arith}
use Rattle.report_text.proofs.DecimalLengths.{one_digit, two_digits, three_digits, four_digits}
use Rattle.report_text.proofs.text.short_length.Goals as goal

pub returns-then-number-lt10 : goal.returns-then-number-lt10
returns-then-number-lt10 c = one_digit c.args.number (omega (arith, c.if-number-lt10.true))

pub returns-then-number-lt100 : goal.returns-then-number-lt100
returns-then-number-lt100 c =
    two_digits c.args.number (omega (arith, c.if-number-lt10.false)) (omega (arith, c.if-number-lt100.true)) (omega (arith, c.ranges.number.fits))

pub returns-then-number-lt1000 : goal.returns-then-number-lt1000
returns-then-number-lt1000 c =
    three_digits c.args.number (omega (arith, c.if-number-lt100.false)) (omega (arith, c.if-number-lt1000.true)) (omega (arith, c.ranges.number.fits))

pub returns-else-number-lt1000 : goal.returns-else-number-lt1000
returns-else-number-lt1000 c =
    four_digits c.args.number (omega (arith, c.if-number-lt1000.false)) (omega (arith, c.requires)) (omega (arith, c.ranges.number.fits))
