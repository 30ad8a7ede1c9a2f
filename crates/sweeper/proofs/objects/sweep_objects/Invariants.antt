use Rattle.std.proofs.Common.{◌≡◌, ◌≤◌, ◌-◌, vec_capacity}
use Rattle.page_space.specs.Space.{IsSpaceOf}
use Rattle.sweeper.specs.Sweeping.{Sweeps}
use Rattle.sweeper.proofs.objects.sweep_objects.Given as goal

abbrev pub invariant-loop-at : goal.invariant-loop-at
invariant-loop-at l = record {
  swept : Sweeps l.from l.at l.initial.seat l.initial.done.items l.seat l.done.items;
  low : l.from ≤ l.at;
  within : l.at ≤ l.until;
  space : IsSpaceOf l.space l.seat;
  shape : l.space.shape ≡ l.initial.space.shape;
  room : vec_capacity l.done ≡ vec_capacity l.initial.done;
}

abbrev pub decreases-loop-at : goal.decreases-loop-at
decreases-loop-at l = l.until - l.at
