use Rattle.std.proofs.Common.{◌≡◌, min, take, vec_len}
use Rattle.mark_worklist.specs.Shares.{last_count}
use Rattle.mark_worklist.specs.Joining.{refused_by}
use Rattle.mark_worklist.proofs.counting.count_refused.Given as goal

abbrev pub invariant-loop-i : goal.invariant-loop-i
invariant-loop-i l = record {
  end : l.i-end ≡ vec_len l.family;
  counted : l.refused ≡ min (refused_by (take l.i l.family.items)) last_count;
}
