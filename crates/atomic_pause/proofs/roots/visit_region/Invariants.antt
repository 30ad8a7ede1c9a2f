use Rattle.std.proofs.Common.{◌≡◌, ◌<◌, ℕ, true, Some}
use mathlib.Core.Logic.{◌⊎◌}
use Rattle.marker_core.specs.Bodies.{holds}
use Rattle.ephemerons.specs.Fixpoint.{ListsMarks}
use Rattle.ephemerons.specs.LookedAt.{LooksOnlyAt}
use Rattle.cross_thread_region.specs.Histories.{strong_place}
use Rattle.atomic_pause.specs.Marking.{IsSharedPlace, with_may}
use Rattle.atomic_pause.proofs.roots.visit_region.Given as goal

abbrev pub invariant-loop-i : goal.invariant-loop-i
invariant-loop-i l = record {
  marks : ListsMarks (with_may l.initial.seat l.seat.may) l.initial.marking l.seat l.marking;
  noted : l.seat.noted ≡ l.initial.seat.noted;
  looked : LooksOnlyAt (IsSharedPlace l.held.history) l.initial.seat l.seat;
  roots : (x p : ℕ) → x < l.i → strong_place l.held.history x ≡ Some p → holds l.seat.marked p ≡ true;
  only : (p : ℕ) → holds l.seat.marked p ≡ true → (holds l.initial.seat.marked p ≡ true) ⊎ IsSharedPlace l.held.history p;
}
