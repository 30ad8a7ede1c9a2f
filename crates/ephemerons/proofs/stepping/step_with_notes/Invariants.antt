use Rattle.std.proofs.Common.{◌≤◌, ◌⊎◌, [], ◌∷◌, None}
use Rattle.std.specs.List.{Contains}
use Rattle.pair_notes.specs.declared.notes.Note.{Note}
use Rattle.ephemerons.specs.UnderWay.{IsOfTraced, IsUnderWay}
use Rattle.ephemerons.specs.Fixpoint.{IsGround, Works, stage, weight}
use Rattle.ephemerons.proofs.stepping.step_with_notes.Given as goal

abbrev pub invariant-loop-traced : goal.invariant-loop-traced
invariant-loop-traced g l = record {
  ground : IsGround l.types (stage l.seat l.marking (l.notes ∷ []) l.traced);
  works :
      Works l.types None (stage l.initial.seat l.initial.marking (l.initial.notes ∷ []) l.initial.traced) (stage l.seat l.marking (l.notes ∷ []) l.traced);
  under_way : IsUnderWay l.seat l.marking l.notes;
  noted : (note : Note) → Contains l.notes.notes note → Contains l.initial.notes.notes note ⊎ IsOfTraced l.types l.seat note;
  most : l.traced ≤ l.most;
}

abbrev pub decreases-loop-traced : goal.decreases-loop-traced
decreases-loop-traced g l = weight (stage l.seat l.marking (l.notes ∷ []) l.traced)
