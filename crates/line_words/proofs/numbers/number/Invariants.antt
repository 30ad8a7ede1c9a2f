use Rattle.std.proofs.Common.{◌≡◌, ◌<◌, ◌^◌, drop}
use Rattle.std.specs.List.{list_all}
use Rattle.gc_graph.specs.Words.{is_digit, value_after}
use Rattle.line_words.proofs.numbers.number.Given as goal

abbrev pub invariant-loop-byte : goal.invariant-loop-byte
invariant-loop-byte l = record {
  small : l.value < 2 ^ 64;
  value : value_after l.value (drop l.byte-index l.word) ≡ value_after 0 l.word;
  digits : list_all is_digit (drop l.byte-index l.word) ≡ list_all is_digit l.word;
}
