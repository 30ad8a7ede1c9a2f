use Rattle.std.proofs.Common.{◌≡◌, ◌+◌, ◌*◌, ◌≤◌, drop}
use Rattle.core_steps.proofs.NextOffsets.{next_of}
use Rattle.core_steps.proofs.hands.next_past.Given as goal

abbrev pub invariant-loop-kind : goal.invariant-loop-kind
invariant-loop-kind l = record {
  small : l.at ≤ 2 + 2 * l.kind-index;
  found : next_of l.offset 2 l.kinds ≡ next_of l.offset l.at (drop l.kind-index l.kinds);
}
