use Rattle.heap_engine.proofs.heap_core.Core.is_valid.Goals as goal

pub returns : goal.returns
returns c = rw (← c.self.view_is) ((c.self.invariant.ready (rw (← c.self.view_is) at c.requires)).valid)
