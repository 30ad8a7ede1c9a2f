use Rattle.std.proofs.Common.{◌≡◌, ◌+◌, drop, eqb}
use Rattle.std.specs.List.{list_any}
use Rattle.atomic_pause.proofs.region_clearing.is_told.Given as goal

abbrev pub invariant-loop-word : goal.invariant-loop-word
invariant-loop-word l = record {
  rest : list_any (λ w. eqb w (l.place + 1)) (drop l.word-index l.dead) ≡ list_any (λ w. eqb w (l.place + 1)) l.dead;
}
