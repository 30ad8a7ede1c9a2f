use Rattle.std.proofs.Common.{◌≡◌, ◌≤◌, ◌*◌, ◌^◌, length, take, vec_len}
use Rattle.std.specs.List.{sum_by}
use Rattle.mark_worklist.specs.Shares.{put_of}
use Rattle.mark_worklist.proofs.counting.count_pushed.Given as goal

abbrev pub invariant-loop-i : goal.invariant-loop-i
invariant-loop-i l = record {
  end : l.i-end ≡ vec_len l.family;
  few : l.pushed ≤ l.i * 2 ^ 60;
  counted : l.pushed ≡ sum_by (λ s. length (put_of s)) (take l.i l.family.items);
}
