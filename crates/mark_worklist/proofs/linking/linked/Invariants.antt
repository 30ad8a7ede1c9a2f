use Rattle.std.proofs.Common.{◌≡◌, vec_len}
use Rattle.mark_worklist.specs.Linking.{lists_of, IsLinked}
use Rattle.mark_worklist.proofs.linking.linked.Given as goal

abbrev pub invariant-loop-giver : goal.invariant-loop-giver
invariant-loop-giver l = record {
  as_many : vec_len l.shares ≡ l.fn.count;
  linked : IsLinked (lists_of l.shares.items) l.giver 0 l.shares.items;
}
