use Rattle.std.proofs.Common.{◌≡◌, vec_len}
use Rattle.mark_worklist.specs.Linking.{lists_of, IsLinked}
use Rattle.mark_worklist.proofs.linking.link_list.Given as goal

abbrev pub invariant-loop-taker : goal.invariant-loop-taker
invariant-loop-taker l = record {
  as_many : vec_len l.shares ≡ vec_len l.initial.shares;
  end : l.taker-end ≡ vec_len l.initial.shares;
  names : lists_of l.shares.items ≡ lists_of l.initial.shares.items;
  linked : IsLinked (lists_of l.initial.shares.items) l.giver l.taker l.shares.items;
}
