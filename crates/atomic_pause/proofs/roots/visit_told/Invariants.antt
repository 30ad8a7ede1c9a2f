use Rattle.std.proofs.Common.{◌≡◌, ◌+◌, ℕ, true, take}
use mathlib.Core.Logic.{◌⊎◌}
use Rattle.std.specs.List.{Contains}
use Rattle.marker_core.specs.Bodies.{holds}
use Rattle.ephemerons.specs.Fixpoint.{ListsMarks}
use Rattle.atomic_pause.proofs.roots.visit_told.Given as goal

abbrev pub invariant-loop-i : goal.invariant-loop-i
invariant-loop-i l = record {
  marks : ListsMarks l.initial.seat l.initial.marking l.seat l.marking;
  noted : l.seat.noted ≡ l.initial.seat.noted;
  looked : l.seat.looked ≡ l.initial.seat.looked;
  roots : (p : ℕ) → Contains (take l.i l.told) (p + 1) → holds l.seat.marked p ≡ true;
  only : (p : ℕ) → holds l.seat.marked p ≡ true → (holds l.initial.seat.marked p ≡ true) ⊎ Contains (take l.i l.told) (p + 1);
}
