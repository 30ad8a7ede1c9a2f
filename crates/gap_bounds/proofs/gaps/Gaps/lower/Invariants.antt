use Rattle.std.proofs.Common.{◌≡◌, ℕ, ◌<◌, ◌≤◌, length, get_or}
use Rattle.gap_bounds.proofs.gaps.Gaps.lower.Given as goal

abbrev pub invariant-loop-class : goal.invariant-loop-class
invariant-loop-class l = record {
  bounds : l.self-inside.bounds ≡ l.initial.self-inside.bounds;
  most : l.self-inside.most.items ≡ l.initial.self-inside.most.items;
  known : l.self-inside.known.items ≡ l.initial.self-inside.known.items;
  first : length l.self-inside.first.items ≡ length l.initial.self-inside.first.items;
  lower : (class : ℕ) → get_or l.self-inside.first.items class 0 ≤ get_or l.initial.self-inside.first.items class 0;
  start : (class : ℕ) → class < l.class → get_or l.self-inside.first.items class 0 ≤ l.start;
}
