use Rattle.std.proofs.Common.{◌≡◌, ℕ, length, get_or, cond}
use Rattle.gap_bounds.specs.Gaps.{is_between}
use Rattle.gap_bounds.proofs.bounds.Bounds.set.Given as goal

abbrev pub invariant-loop-block : goal.invariant-loop-block
invariant-loop-block l = record {
  bounds : (block : ℕ) → get_or l.self block 0 ≡ cond (is_between l.first l.block block) l.bound (get_or l.fn.self block 0);
  blocks : length l.self ≡ length l.fn.self;
}
