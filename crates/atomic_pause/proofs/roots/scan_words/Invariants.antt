use Rattle.std.proofs.Common.{◌≡◌, ℕ, true, take}
use mathlib.Core.Logic.{◌⊎◌}
use Rattle.marker_core.specs.Bodies.{holds}
use Rattle.ephemerons.specs.Fixpoint.{ListsMarks}
use Rattle.atomic_pause.specs.Marking.{IsHitPlace, with_may}
use Rattle.atomic_pause.proofs.roots.scan_words.Given as goal

abbrev pub invariant-loop-i : goal.invariant-loop-i
invariant-loop-i l = record {
  marks : ListsMarks (with_may l.initial.seat l.seat.may) l.initial.marking l.seat l.marking;
  noted : l.seat.noted ≡ l.initial.seat.noted;
  roots : (p : ℕ) → IsHitPlace l.initial.seat.bodies (take l.i l.stack) p → holds l.seat.marked p ≡ true;
  only : (p : ℕ) → holds l.seat.marked p ≡ true → (holds l.initial.seat.marked p ≡ true) ⊎ IsHitPlace l.initial.seat.bodies (take l.i l.stack) p;
}
