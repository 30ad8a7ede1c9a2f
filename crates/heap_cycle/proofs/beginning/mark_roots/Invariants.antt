use Rattle.heap_roots.specs.Roots.{roots_in}
use Rattle.heap_cycle.proofs.beginning.mark_roots.Given as goal

abbrev pub ghost-begin : goal.ghost-begin
ghost-begin a = roots_in a.self.now a.region.now.taken
