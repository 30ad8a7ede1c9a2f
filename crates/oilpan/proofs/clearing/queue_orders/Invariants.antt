use Rattle.std.proofs.Common.{◌≡◌, ◌+◌, ◌≤◌, false}
use Rattle.oilpan.specs.Clearing.{AreQueued}
use Rattle.oilpan.proofs.clearing.queue_orders.Given as goal

abbrev pub invariant-loop-slot : goal.invariant-loop-slot
invariant-loop-slot g l = record {
  queued : AreQueued l.initial.heap.core.state l.heap.core.state l.shared;
  ordinal : l.heap.core.state.ordinal ≤ l.initial.heap.core.state.ordinal + l.slot;
  setup : l.heap.core.setup ≡ l.initial.heap.core.setup;
  opened : l.heap.core.closed ≡ false;
}
