use Rattle.std.proofs.Common.{◌≡◌, drop}
use Rattle.marker_core.specs.Bodies.{role_at}
use Rattle.core_steps.proofs.bodies.role_at.Given as goal

abbrev pub invariant-loop-kind : goal.invariant-loop-kind
invariant-loop-kind l = role_at l.kinds l.i ≡ role_at (drop l.kind-index l.kinds) l.left
