use Rattle.std.proofs.Common.{◌≡◌}
use Rattle.oilpan.specs.Clearing.{AreFreed}
use Rattle.oilpan.proofs.clearing.free_cleared.Given as goal

abbrev pub invariant-loop-i : goal.invariant-loop-i
invariant-loop-i g l = record {
  freed : AreFreed l.initial.heap.core.lines l.initial.shared l.shared;
  same : l.heap.core ≡ l.initial.heap.core;
}
