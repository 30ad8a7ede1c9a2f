use Rattle.std.proofs.Common.{◌≡◌, vec_len, vec_capacity}
use Rattle.thread_queues.specs.Going.{IsFirst}
use Rattle.thread_queues.specs.Orders.{HasOut}
use Rattle.thread_queues.proofs.Joining.{HaveMetBut}
use Rattle.thread_queues.proofs.returning.join_all.Given as goal

abbrev pub invariant-loop-own : goal.invariant-loop-own
invariant-loop-own l = record {
  first : IsFirst l.region l.pass;
  out : HasOut l.region l.pass l.passes.items;
  met : HaveMetBut l.fn.passes.items l.passes.items l.fn.pass l.pass;
  pass : l.pass ≡ record l.fn.pass { seen = l.pass.seen; out = l.pass.out };
  room : vec_capacity l.passes ≡ vec_capacity l.fn.passes;
}

abbrev pub decreases-loop-own : goal.decreases-loop-own
decreases-loop-own l = vec_len l.passes
