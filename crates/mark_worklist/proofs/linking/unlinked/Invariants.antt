use Rattle.std.proofs.Common.{◌≡◌, ◌<◌, ℕ, vec_len, vec_capacity}
use Rattle.mark_worklist.specs.Families.{alone, at}
use Rattle.mark_worklist.proofs.linking.unlinked.Given as goal

abbrev pub invariant-loop-number : goal.invariant-loop-number
invariant-loop-number l = record {
  as_many : vec_len l.shares ≡ l.number;
  room : vec_capacity l.shares ≡ l.fn.count;
  each : (k : ℕ) → k < l.number → at l.shares.items k ≡ alone k (at l.shares.items k).own.list;
}
