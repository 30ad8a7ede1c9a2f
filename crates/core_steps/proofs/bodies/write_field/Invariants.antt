use Rattle.std.proofs.Common.{◌≡◌, ◌++◌, map, take, drop}
use Rattle.marker_core.specs.Bodies.{with_word}
use Rattle.core_steps.proofs.bodies.write_field.Given as goal

abbrev pub invariant-loop-b : goal.invariant-loop-b
invariant-loop-b l = l.b-items ≡ map (with_word l.a l.w) (take l.b-index l.initial.b-items) ++ drop l.b-index l.initial.b-items
