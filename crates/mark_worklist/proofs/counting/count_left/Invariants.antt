use Rattle.std.proofs.Common.{◌≡◌, ◌≤◌, ◌<◌, ◌*◌, ◌^◌, ℕ, List, length, take, vec_len, vec_capacity}
use Rattle.mark_worklist.specs.Hands.{HasLeft}
use Rattle.mark_worklist.specs.Families.{at}
use Rattle.mark_worklist.specs.Joining.{OwnLeft}
use Rattle.mark_worklist.proofs.counting.count_left.Given as goal

abbrev pub invariant-loop-i : goal.invariant-loop-i
invariant-loop-i l = record {
  end : l.i-end ≡ vec_len l.initial.family;
  same : l.family.items ≡ l.initial.family.items;
  room : vec_capacity l.family ≡ vec_capacity l.initial.family;
  few : l.left ≤ l.i * 2 ^ 60;
  counted : (items : List ℕ) × (length items ≡ l.left) × OwnLeft (take l.i l.initial.family.items) items;
  each : (k : ℕ) → k < l.i → HasLeft (at l.initial.family.items k).own.hand;
}
