use Rattle.std.proofs.Common.{◌≡◌, ◌+◌, ◌*◌, ◌≤◌, drop}
use Rattle.marker_core.specs.Bodies.{field_word_count}
use Rattle.core_steps.proofs.objects.word_count.Given as goal

abbrev pub invariant-loop-kind : goal.invariant-loop-kind
invariant-loop-kind l = record {
  few : l.total ≤ 2 * l.kind-index;
  rest : l.total + field_word_count (drop l.kind-index l.kinds) ≡ field_word_count l.kinds;
}
