use Rattle.std.proofs.Common.{◌≡◌, true, length}
use Rattle.heap_objects.specs.Crews.{Relists}
use Rattle.heap_objects.proofs.crew.relist.Given as goal

abbrev pub invariant-loop-place : goal.invariant-loop-place
invariant-loop-place l = record {
  relists : Relists l.initial.alone.items l.alone.items l.initial.marking l.marking;
  whole : l.alone.whole ≡ true;
}

abbrev pub decreases-loop-place : goal.decreases-loop-place
decreases-loop-place l = length l.alone.items
