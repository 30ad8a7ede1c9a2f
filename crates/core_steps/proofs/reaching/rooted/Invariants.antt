use Rattle.std.proofs.Common.{◌≡◌, map, filter}
use Rattle.std.specs.List.{range_with_len}
use Rattle.marker_core.specs.Bodies.{holds, is_place}
use Rattle.core_steps.proofs.reaching.rooted.Given as goal

abbrev pub invariant-loop-n : goal.invariant-loop-n
invariant-loop-n l = l.set.items ≡ map (holds (filter (is_place l.bodies) l.roots)) (range_with_len 0 l.n)
