use Rattle.std.proofs.Common.{◌≡◌}
use Rattle.ephemerons.proofs.closing.begin_indexes.Given as goal

abbrev pub invariant-loop-i : goal.invariant-loop-i
invariant-loop-i l = l.groups ≡ l.initial.groups
