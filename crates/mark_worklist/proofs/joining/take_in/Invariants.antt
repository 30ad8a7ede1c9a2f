use Rattle.std.proofs.Common.{◌≡◌, ◌≤◌, ◌<◌, ◌+◌, ℕ, ◌++◌, vec_len, vec_capacity, Contains, IsPermutation}
use Rattle.mark_worklist.specs.Shares.{ShareState}
use Rattle.mark_worklist.specs.Families.{at}
use Rattle.mark_worklist.proofs.joining.take_in.Given as goal

abbrev pub invariant-loop-number : goal.invariant-loop-number
invariant-loop-number l = record {
  count : l.count ≡ vec_len l.fn.shares;
  taken : vec_len l.family ≡ l.number + 1;
  rest : vec_len l.shares + l.number ≡ l.count;
  room : vec_capacity l.family ≡ vec_capacity l.fn.family;
  same : IsPermutation (l.fn.family.items ++ l.fn.shares.items) (l.family.items ++ l.shares.items);
  numbered : (k : ℕ) → k < l.number + 1 → (at l.family.items k).number ≡ k;
  coming : (n : ℕ) → l.number < n → n ≤ l.count → (s : ShareState) × Contains l.shares.items s × (s.number ≡ n);
}
