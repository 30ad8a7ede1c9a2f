use Rattle.std.proofs.Common.{◌-◌, ◌/◌, ℕ, ◌<◌, ◌≤◌, get_or}
use Rattle.gap_bounds.proofs.bounds.Bounds.worth_from.Given as goal

abbrev pub invariant-loop-at : goal.invariant-loop-at
invariant-loop-at l = record {
  from : l.from ≤ l.at;
  passed : (a : ℕ) → l.from ≤ a → a < l.at → a < l.end → get_or l.fn.self (a / 64) 0 < l.size;
}

abbrev pub decreases-loop-at : goal.decreases-loop-at
decreases-loop-at l = l.end - l.at
