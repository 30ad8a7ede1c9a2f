use Rattle.std.proofs.Common.{◌≡◌, ◌+◌, length}
use Rattle.mark_worklist.specs.Shares.{put_of}
use Rattle.mark_worklist.specs.Joining.{IsSameList}
use Rattle.mark_worklist.specs.Families.{at}
use Rattle.stealing_lists.proofs.sharing.put_all.Given as goal

abbrev pub invariant-loop-item : goal.invariant-loop-item
invariant-loop-item l =
    IsSameList l.initial.list l.list × (length (put_of (at l.list 0)) ≡ length (put_of (at l.initial.list 0)) + l.item)
