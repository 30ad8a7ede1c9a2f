use Rattle.std.proofs.Common.{◌≡◌, ℕ, ◌-◌, ◌≤◌, List, ◌++◌, length, drop}
use Rattle.line_words.specs.Cursor.{line_words, lines_after}
use Rattle.heap_script.specs.TypeLines.{AreCallbacks}
use Rattle.heap_script.proofs.type_lines.read_numbers.Given as goal

abbrev pub invariant-loop-numbers : goal.invariant-loop-numbers
invariant-loop-numbers l = record {
  taken : List (List ℕ);
  whole : line_words (drop l.from l.bytes) ≡ taken ++ line_words (drop l.at l.bytes);
  order : l.from ≤ l.at;
  within : l.at ≤ length l.bytes;
  same : lines_after (drop l.from l.bytes) ≡ lines_after (drop l.at l.bytes);
  called : AreCallbacks l.callbacks taken l.numbers.items l.over;
}

abbrev pub decreases-loop-numbers : goal.decreases-loop-numbers
decreases-loop-numbers l = length l.bytes - l.at
