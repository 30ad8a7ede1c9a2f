use Rattle.oilpan.proofs.ThreadClears.{have_run}
use Rattle.oilpan.proofs.clearing.run_orders.Goals as goal

pub returns-clause-run : goal.returns-clause-run
returns-clause-run g c =
    have_run _ c.calls_change_their_slot.ensures.slots c.steps_stay_in_their_family.ensures c.joins_tell_all.ensures c.args.heap.now.core.setup _ _ _ _ _ _
    c.requires.rest c.requires.running c.queue_orders.ensures.queued c.act.ensures.acted.step c.orders_wait_for_their_thread.ensures.starts _ _
    c.ask-going.ensures.acted.step
