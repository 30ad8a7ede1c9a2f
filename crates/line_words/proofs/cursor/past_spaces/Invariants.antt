use Rattle.std.proofs.Common.{length, drop, ◌-◌, ◌≡◌, ◌≤◌}
use Rattle.line_words.specs.Cursor.{line_words, lines_after}
use Rattle.line_words.proofs.cursor.past_spaces.Given as goal

abbrev pub invariant-loop-place : goal.invariant-loop-place
invariant-loop-place l = record {
  before : l.from ≤ l.place;
  within : l.place ≤ length l.bytes;
  words : line_words (drop l.from l.bytes) ≡ line_words (drop l.place l.bytes);
  lines : lines_after (drop l.from l.bytes) ≡ lines_after (drop l.place l.bytes);
}

abbrev pub decreases-loop-place : goal.decreases-loop-place
decreases-loop-place l = length l.bytes - l.place
