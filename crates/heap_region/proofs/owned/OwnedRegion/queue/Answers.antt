use Rattle.std.proofs.Common.{sym, ap, ◌∙◌, subst}
use Rattle.thread_queues.specs.Queues.{QueuesView, with_order}
use Rattle.heap_region.specs.Owned.{OwnedView}
use Rattle.heap_region.proofs.Fields.{AreOwned}
use Rattle.heap_region.proofs.Queued.{has_queued}
use Rattle.heap_region.proofs.owned.OwnedRegion.queue.Goals as goal

pub invariant_of-self-2 : goal.invariant_of-self-2
invariant_of-self-2 c =
    let r = c.self.inside in
    subst (λ (queues : QueuesView). AreOwned (record r { threads = queues })) (sym c.in_ok-queue.ensures.queued)
    (has_queued r (with_order r.threads.queues c.args.thread c.args.order) c.self.invariant (ap (λ (v : OwnedView). v.awaiting) c.self.view_is ∙ c.requires.joined)
    (ap (λ (v : OwnedView). v.closed) c.self.view_is ∙ c.requires.opened))
