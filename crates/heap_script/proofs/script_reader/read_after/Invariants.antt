use Rattle.std.proofs.Common.{◌≡◌, ℕ, ◌-◌, ◌≤◌, length, drop}
use Rattle.gc_graph.specs.Words.{lines_of}
use Rattle.gc_graph.specs.Script.{version_of}
use Rattle.line_words.specs.Cursor.{first_line}
use Rattle.heap_script.proofs.ReadSoFar.{IsReadTo}
use Rattle.heap_script.proofs.script_reader.read_after.Given as goal

abbrev pub invariant-loop-at : goal.invariant-loop-at
invariant-loop-at l = record {
  within : l.at ≤ length l.bytes;
  few : l.kept.past.lines ≤ 1000000;
  read_lines : ℕ;
  left : drop read_lines (lines_of (drop l.from l.bytes)) ≡ lines_of (drop l.at l.bytes);
  read : IsReadTo (version_of (first_line l.bytes)) l.callbacks (lines_of (drop l.from l.bytes)) read_lines l.kept.past l.kept.types.items l.kept.commands.items;
}

abbrev pub decreases-loop-at : goal.decreases-loop-at
decreases-loop-at l = length l.bytes - l.at
