use Rattle.std.proofs.Common.{sym, subst}
use Rattle.thread_queues.specs.Queues.{QueuesView, posted}
use Rattle.heap_region.proofs.Fields.{AreOwned}
use Rattle.heap_region.proofs.Queued.{has_posted}
use Rattle.heap_region.proofs.owned.OwnedRegion.publish.Goals as goal

pub invariant_of-self : goal.invariant_of-self
invariant_of-self g c =
    let r = c.self.inside in
    subst (λ (queues : QueuesView). AreOwned (record r { threads = queues })) (sym c.publish.ensures)
    (has_posted r c.args.totals (posted r.threads.since r.threads.last) c.self.invariant)
