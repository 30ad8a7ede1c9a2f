use Rattle.std.proofs.Common.{◌≡◌, ◌++◌, drop}
use Rattle.type_table.specs.Types.{offset_of}
use Rattle.type_table.specs.TracedWords.{traced_from, traced_words_of}
use Rattle.type_table.proofs.traced.traced_words_of.Given as goal

abbrev pub invariant-loop-kind : goal.invariant-loop-kind
invariant-loop-kind l = record {
  next : l.next ≡ offset_of l.kinds l.kind-index;
  done : l.traced.items ++ traced_from l.next (drop l.kind-index l.kinds) ≡ traced_words_of l.kinds;
}
