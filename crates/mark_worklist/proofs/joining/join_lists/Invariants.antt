use Rattle.std.proofs.Common.{◌≡◌, ◌≤◌, ◌-◌, List, length, vec_len, vec_capacity}
use Rattle.mark_worklist.specs.Hands.{all_parts}
use Rattle.mark_worklist.specs.Ends.{ListName}
use Rattle.mark_worklist.specs.Joining.{AreOpen, LoseNothing}
use Rattle.mark_worklist.proofs.joining.join_lists.Given as goal

abbrev pub invariant-loop-past : goal.invariant-loop-past
invariant-loop-past l = record {
  count : l.count ≡ vec_len l.initial.family;
  as_many : vec_len l.family ≡ vec_len l.initial.family;
  room : vec_capacity l.family ≡ vec_capacity l.initial.family;
  same : LoseNothing l.initial.family.items l.family.items;
  state : (names : List ListName) × (length names ≤ all_parts) × AreOpen names (l.count - l.past) l.family.items;
}
