use Rattle.std.proofs.Common.{◌≡◌}
use Rattle.mark_worklist.specs.Shares.{IsSameShare, put_of}
use Rattle.stealing_lists.proofs.sharing.take_all.Given as goal

abbrev pub invariant-loop-item : goal.invariant-loop-item
invariant-loop-item l = IsSameShare l.initial.share l.share × (put_of l.share ≡ put_of l.initial.share)
