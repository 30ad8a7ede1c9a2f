use Rattle.std.proofs.Common.{◌≡◌, ◌≤◌, List, length, vec_len, vec_capacity}
use Rattle.mark_worklist.specs.Hands.{all_parts}
use Rattle.mark_worklist.specs.Ends.{ListName}
use Rattle.mark_worklist.specs.Joining.{ArePartJoined, LoseNothing}
use Rattle.mark_worklist.proofs.joining.join_list.Given as goal

abbrev pub invariant-loop-giver : goal.invariant-loop-giver
invariant-loop-giver l = record {
  end : l.giver-end ≡ vec_len l.initial.family;
  as_many : vec_len l.family ≡ vec_len l.initial.family;
  room : vec_capacity l.family ≡ vec_capacity l.initial.family;
  same : LoseNothing l.initial.family.items l.family.items;
  joined : (names : List ListName) × (length names ≤ all_parts) × ArePartJoined names l.owner l.giver l.family.items;
}
