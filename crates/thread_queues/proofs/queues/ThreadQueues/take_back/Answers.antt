use Rattle.std.proofs.Common.{rules, subst}
use Rattle.thread_queues.specs.Queues.{QueuesView, posted, replies_of}
use Rattle.thread_queues.specs.Going.{TellSomeOf}
use Rattle.thread_queues.proofs.Whole.{eight_still, out_of, posted_here, threads_here}
use Rattle.thread_queues.proofs.queues.ThreadQueues.take_back.Goals as goal

pub join_all-requires-clause-out : goal.join_all-requires-clause-out
join_all-requires-clause-out g c =
    c.wait_for_all.ensures.out _ _ (out_of _ _ c.self.inside.threads.items _ _ _ _ c.args.self.now c.self.view_is c.requires.outs)

pub invariant_of-self : goal.invariant_of-self
invariant_of-self g c =
    let eight = eight_still c.self.inside.threads.items c.wait_for_all.new.threads.items c.wait_for_all.ensures.orders c.self.invariant.0.eight in (
      threads_here _ _ _ eight (search rules) c.wait_for_all.ensures.here,
      c.join_all.ensures.none,
      posted_here _ c.self.inside.publisher _ _ c.self.inside.threads.items _ c.self.invariant.2 c.wait_for_all.ensures.publisher c.wait_for_all.ensures.here,
    )

pub returns-clause-told : goal.returns-clause-told
returns-clause-told g c =
    subst (λ (v : QueuesView). TellSomeOf (posted v.since v.last) (replies_of c.wait_for_all.new.threads.items)) c.self.view_is c.wait_for_all.ensures.told
