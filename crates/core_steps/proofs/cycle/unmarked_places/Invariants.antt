use Rattle.std.proofs.Common.{◌≡◌, filter, take, not}
use Rattle.marker_core.specs.Layout.{is_marked}
use Rattle.marker_core.specs.Bodies.{places}
use Rattle.core_steps.proofs.cycle.unmarked_places.Given as goal

abbrev pub invariant-loop-b : goal.invariant-loop-b
invariant-loop-b l = l.dead ≡ filter (λ a. not (is_marked l.words a)) (places (take l.b-index l.bodies))
