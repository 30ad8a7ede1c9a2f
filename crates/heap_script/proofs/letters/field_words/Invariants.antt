use Rattle.std.proofs.Common.{◌≡◌, take}
use Rattle.gc_graph.specs.Fields as fields
use Rattle.heap_script.proofs.letters.field_words.Given as goal

abbrev pub invariant-loop-kind : goal.invariant-loop-kind
invariant-loop-kind l = l.words ≡ fields.field_words (take l.kind-index l.kinds)
