use Rattle.std.proofs.Common.{◌≡◌, ℕ, ◌<◌, ◌≤◌, length, get_or}
use Rattle.gap_bounds.proofs.bounds.Bounds.raise.Given as goal

abbrev pub invariant-loop-block : goal.invariant-loop-block
invariant-loop-block l = record {
  kept : (block : ℕ) → get_or l.fn.self block 0 ≤ get_or l.self block 0;
  raised : (block : ℕ) → l.first ≤ block → block < l.block → l.bound ≤ get_or l.self block 0;
  blocks : length l.self ≡ length l.fn.self;
}
