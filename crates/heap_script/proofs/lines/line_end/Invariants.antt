use Rattle.std.proofs.Common.{◌≡◌, ◌-◌, ◌≤◌, length, drop}
use Rattle.line_words.specs.Cursor.{lines_after}
use Rattle.heap_script.proofs.lines.line_end.Given as goal

abbrev pub invariant-loop-from : goal.invariant-loop-from
invariant-loop-from l = record {
  order : l.from ≤ l.at;
  within : l.at ≤ length l.bytes;
  same : lines_after (drop l.from l.bytes) ≡ lines_after (drop l.at l.bytes);
}

abbrev pub decreases-loop-from : goal.decreases-loop-from
decreases-loop-from l = length l.bytes - l.at
