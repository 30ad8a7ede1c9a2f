use Rattle.marking_trials.proofs.SmallHeap.{small_made}
use Rattle.marking_trials.proofs.small_heap.made.Goals as goal

pub returns-clause-small : goal.returns-clause-small
returns-clause-small c =
    small_made _ c.put.new.seat c.put-2.new.seat _ c.in_ok-heap.ensures.view (c.put.ensures.put c.if-not-put.false) (c.put-2.ensures.put c.if-not-put-2.false)
