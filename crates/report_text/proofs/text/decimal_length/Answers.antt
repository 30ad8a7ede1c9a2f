use Rattle.std.proofs.Common.{arith}
use Rattle.report_text.proofs.DecimalLengths.{five_digits, six_digits, seven_digits, eight_digits, nine_digits, ten_digits}
use Rattle.report_text.proofs.text.decimal_length.Goals as goal

pub returns-then-number-lt100000 : goal.returns-then-number-lt100000
returns-then-number-lt100000 c =
    five_digits c.args.number (omega (arith, c.if-number-lt10000.false)) (omega (arith, c.if-number-lt100000.true)) (omega (arith, c.ranges.number.fits))

pub returns-then-number-lt1000000 : goal.returns-then-number-lt1000000
returns-then-number-lt1000000 c =
    six_digits c.args.number (omega (arith, c.if-number-lt100000.false)) (omega (arith, c.if-number-lt1000000.true)) (omega (arith, c.ranges.number.fits))

pub returns-then-number-lt10000000 : goal.returns-then-number-lt10000000
returns-then-number-lt10000000 c =
    seven_digits c.args.number (omega (arith, c.if-number-lt1000000.false)) (omega (arith, c.if-number-lt10000000.true)) (omega (arith, c.ranges.number.fits))

pub returns-then-number-lt100000000 : goal.returns-then-number-lt100000000
returns-then-number-lt100000000 c =
    eight_digits c.args.number (omega (arith, c.if-number-lt10000000.false)) (omega (arith, c.if-number-lt100000000.true)) (omega (arith, c.ranges.number.fits))

pub returns-then-number-lt1000000000 : goal.returns-then-number-lt1000000000
returns-then-number-lt1000000000 c =
    nine_digits c.args.number (omega (arith, c.if-number-lt100000000.false)) (omega (arith, c.if-number-lt1000000000.true)) (omega (arith, c.ranges.number.fits))

pub returns-else-number-lt1000000000 : goal.returns-else-number-lt1000000000
returns-else-number-lt1000000000 c =
    ten_digits c.args.number (omega (arith, c.if-number-lt1000000000.false)) (omega (arith, c.ranges.number.fits))
