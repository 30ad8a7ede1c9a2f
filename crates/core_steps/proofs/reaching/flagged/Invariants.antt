use Rattle.std.proofs.Common.{◌≡◌, filter, take}
use Rattle.gc_graph.specs.Graph.{has}
use Rattle.marker_core.specs.Bodies.{places}
use Rattle.core_steps.proofs.reaching.flagged.Given as goal

abbrev pub invariant-loop-b : goal.invariant-loop-b
invariant-loop-b l = l.kept ≡ filter (has l.set) (places (take l.b-index l.bodies))
