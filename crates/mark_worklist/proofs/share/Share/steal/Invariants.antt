use Rattle.std.proofs.Common.{◌≡◌, length}
use Rattle.mark_worklist.proofs.Looks.{Looked}
use Rattle.mark_worklist.proofs.share.Share.steal.Given as goal

abbrev pub invariant-loop-i : goal.invariant-loop-i
invariant-loop-i l = record {
  inside : l.self ≡ record l.initial.self { others = l.self.others };
  count : l.i-end ≡ length l.fn.self.others;
  looked : Looked l.fn.self.others l.self.others l.i;
}
