use Rattle.std.proofs.Common.{length, ◌-◌}
use Rattle.line_words.specs.Cursor.{IsDigits}
use Rattle.line_words.proofs.numerals.digits.Given as goal

abbrev pub invariant-loop-value : goal.invariant-loop-value
invariant-loop-value l = IsDigits l.bytes l.start l.place l.value

abbrev pub decreases-loop-value : goal.decreases-loop-value
decreases-loop-value l = length l.bytes - l.place
