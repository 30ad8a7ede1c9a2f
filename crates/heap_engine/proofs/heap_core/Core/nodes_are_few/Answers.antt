use Rattle.heap_engine.proofs.heap_core.Core.nodes_are_few.Goals as goal

pub returns : goal.returns
returns c = rw (← c.self.view_is) c.self.invariant.made
