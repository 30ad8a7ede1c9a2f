use Rattle.std.proofs.Common.{length, take, drop, ◌-◌, ◌≡◌, ◌≤◌, true}
use Rattle.std.specs.List.{list_all}
use Rattle.line_words.specs.Cursor.{is_word_byte}
use Rattle.line_words.proofs.cursor.word_end.Given as goal

abbrev pub invariant-loop-place : goal.invariant-loop-place
invariant-loop-place l = record {
  order : l.start ≤ l.place;
  within : l.place ≤ length l.bytes;
  inner : list_all is_word_byte (take (l.place - l.start) (drop l.start l.bytes)) ≡ true;
}

abbrev pub decreases-loop-place : goal.decreases-loop-place
decreases-loop-place l = length l.bytes - l.place
