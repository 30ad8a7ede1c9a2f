use Rattle.std.proofs.Common.{ℕ, ◌*◌, ◌<◌, ◌≤◌, get_or}
use Rattle.gap_bounds.proofs.bounds.Bounds.largest.Given as goal

abbrev pub invariant-loop-group : goal.invariant-loop-group
invariant-loop-group l = record { most : (block : ℕ) → 4 * l.first ≤ block → block < 4 * l.group → get_or l.fn.self block 0 ≤ l.largest }
