use Rattle.std.proofs.Common.{◌≡◌, map, filter}
use Rattle.std.specs.List.{range_with_len}
use Rattle.gc_graph.specs.Reach.{closed_times}
use Rattle.marker_core.specs.Bodies.{holds, is_place}
use Rattle.marker_core.specs.Closed.{address_graph}
use Rattle.core_steps.proofs.reaching.reach_over.Given as goal

abbrev pub invariant-loop-turn : goal.invariant-loop-turn
invariant-loop-turn l =
    l.set.items
    ≡ closed_times l._turn (address_graph l.count l.types l.bodies) (map (holds (filter (is_place l.bodies) l.roots)) (range_with_len 0 l.count))
