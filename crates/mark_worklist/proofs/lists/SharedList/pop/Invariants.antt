use Rattle.std.proofs.Common.{◌≡◌, ◌<◌, ℕ, get_or, vec_len, vec_capacity}
use Rattle.mark_worklist.specs.Hands.{WasEmpty}
use Rattle.mark_worklist.specs.Shares.{ShareState}
use Rattle.mark_worklist.proofs.lists.SharedList.pop.Given as goal

abbrev pub invariant-loop-i : goal.invariant-loop-i
invariant-loop-i l = record {
  end : l.i-end ≡ vec_len l.initial.self-inside.family;
  same : l.self-inside.family.items ≡ l.initial.self-inside.family.items;
  room : vec_capacity l.self-inside.family ≡ vec_capacity l.initial.self-inside.family;
  looked : (k : ℕ) (d : ShareState) → k < l.i → WasEmpty (get_or l.initial.self-inside.family.items k d).own.hand;
}
