use Rattle.std.proofs.Common.{◌≡◌, ◌+◌, ◌-◌, ◌≤◌, length, drop}
use Rattle.gc_graph.specs.Words.{lines_of}
use Rattle.heap_script.proofs.lines.count_from.Given as goal

abbrev pub invariant-loop-at : goal.invariant-loop-at
invariant-loop-at l = record {
  counted : l.count + length (lines_of (drop l.at l.bytes)) ≡ length (lines_of (drop l.from l.bytes));
  within : l.at ≤ length l.bytes;
  room : l.count ≤ l.at;
}

abbrev pub decreases-loop-at : goal.decreases-loop-at
decreases-loop-at l = length l.bytes - l.at
