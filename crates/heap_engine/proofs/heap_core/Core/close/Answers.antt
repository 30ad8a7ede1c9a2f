use Rattle.heap_engine.proofs.heap_core.Core.close.Goals as goal

pub returns-clause-line : goal.returns-clause-line
returns-clause-line g c =
    rw (← c.self.view_is) (c.totals-n.result.2, c.totals-n.ensures.pages, rw (c.totals-n.ensures.objects, c.totals-n.ensures.used))
