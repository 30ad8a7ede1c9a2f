use Rattle.std.proofs.Common.{◌≡◌, drop, length}
use Rattle.persistent_slots.specs.Clearing.{AsksInTurn}
use Rattle.persistent_slots.proofs.InTurn.{IsClearedTo}
use Rattle.persistent_slots.proofs.slots.Slots.clear_dead.Given as goal

abbrev pub invariant-loop-i : goal.invariant-loop-i
invariant-loop-i g l = record {
  asks : AsksInTurn (goal.F-pre g) (goal.F-step g) l.dead (drop l.i l.self-inside.places.items);
  done : IsClearedTo (goal.F-step g) l.initial.dead l.initial.self-inside.places.items l.dead l.self-inside.places.items l.i;
  len : length l.self-inside.places.items ≡ l.i-end;
}
