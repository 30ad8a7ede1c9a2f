use Rattle.std.proofs.Common.{◌≡◌, ◌≢◌, ◌<◌, ℕ, vec_len}
use Rattle.mark_worklist.specs.Families.{at}
use Rattle.mark_worklist.proofs.joining.position_of.Given as goal

abbrev pub invariant-loop-i : goal.invariant-loop-i
invariant-loop-i l = record {
  end : l.i-end ≡ vec_len l.shares;
  not_before : (k : ℕ) → k < l.i → (at l.shares.items k).number ≢ l.number;
}
