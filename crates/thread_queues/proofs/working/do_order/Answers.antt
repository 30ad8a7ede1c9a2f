use Rattle.std.proofs.Common.{ap, refl}
use Rattle.gc_graph.specs.RegionSteps.{op_of}
use Rattle.thread_queues.proofs.Calls.{order_called, own_stays, reads_one, totals_told, copy_entry, clear_entry, weaken_entry, upgrade_entry}
use Rattle.thread_queues.proofs.working.do_order.Goals as goal

pub returns-in-Copy-clause-done : goal.returns-in-Copy-clause-done
returns-in-Copy-clause-done g c =
    order_called _ _ _ _ _ _ _ (ap op_of c.in-Copy.is) (copy_entry c.args.place.now.thread c.in-Copy.from c.in-Copy.into) c.requires.own.number_is refl c.told.ensures c.copy.ensures

pub returns-in-Copy-clause-own : goal.returns-in-Copy-clause-own
returns-in-Copy-clause-own g c = own_stays _ _ _ _ _ _ c.requires.own c.copy.ensures

pub returns-in-Clear-clause-done : goal.returns-in-Clear-clause-done
returns-in-Clear-clause-done g c =
    order_called _ _ _ _ _ _ _ (ap op_of c.in-Clear.is) (clear_entry c.args.place.now.thread c.in-Clear.slot) c.requires.own.number_is refl c.told-in-Clear.ensures c.clear.ensures

pub returns-in-Clear-clause-own : goal.returns-in-Clear-clause-own
returns-in-Clear-clause-own g c = own_stays _ _ _ _ _ _ c.requires.own c.clear.ensures

pub returns-in-Weaken-clause-done : goal.returns-in-Weaken-clause-done
returns-in-Weaken-clause-done g c =
    order_called _ _ _ _ _ _ _ (ap op_of c.in-Weaken.is) (weaken_entry c.args.place.now.thread c.in-Weaken.slot) c.requires.own.number_is refl c.told-in-Weaken.ensures c.weaken.ensures

pub returns-in-Weaken-clause-own : goal.returns-in-Weaken-clause-own
returns-in-Weaken-clause-own g c = own_stays _ _ _ _ _ _ c.requires.own c.weaken.ensures

pub returns-in-Upgrade-clause-done : goal.returns-in-Upgrade-clause-done
returns-in-Upgrade-clause-done g c =
    order_called _ _ _ _ _ _ _ (ap op_of c.in-Upgrade.is) (upgrade_entry c.args.place.now.thread c.in-Upgrade.from c.in-Upgrade.into) c.requires.own.number_is refl c.told-in-Upgrade.ensures c.upgrade.ensures

pub returns-in-Upgrade-clause-own : goal.returns-in-Upgrade-clause-own
returns-in-Upgrade-clause-own g c = own_stays _ _ _ _ _ _ c.requires.own c.upgrade.ensures

pub returns-in-Totals-clause-done : goal.returns-in-Totals-clause-done
returns-in-Totals-clause-done g c = totals_told _ _ _ _ _ c.in-Totals.is refl c.read-totals.ensures.pass

pub returns-in-Totals-clause-board : goal.returns-in-Totals-clause-board
returns-in-Totals-clause-board g c = reads_one _ _ _ c.read-totals.ensures.pass
