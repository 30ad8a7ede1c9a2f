use Rattle.std.proofs.Common.{◌≡◌, map}
use Rattle.std.specs.List.{range_with_len}
use Rattle.marker_core.specs.Looking.{is_pulled}
use Rattle.core_steps.proofs.reaching.closing.Given as goal

abbrev pub invariant-loop-n : goal.invariant-loop-n
invariant-loop-n l = l.next.items ≡ map (is_pulled l.types l.bodies l.set) (range_with_len 0 l.n)
