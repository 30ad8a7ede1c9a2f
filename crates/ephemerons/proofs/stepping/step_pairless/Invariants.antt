use Rattle.std.proofs.Common.{◌≡◌, ◌≤◌, [], ◌∷◌, None}
use Rattle.ephemerons.specs.UnderWay.{IsUnderWay}
use Rattle.ephemerons.specs.Fixpoint.{IsGround, Works, stage, weight, with_held}
use Rattle.ephemerons.proofs.stepping.step_pairless.Given as goal

abbrev pub invariant-loop-next : goal.invariant-loop-next
invariant-loop-next g l = record {
  ground : IsGround l.types (stage l.seat (with_held l.next l.marking) (l.notes ∷ []) l.traced);
  works :
      Works l.types None (stage l.initial.seat (with_held l.initial.next l.initial.marking) (l.notes ∷ []) 0)
      (stage l.seat (with_held l.next l.marking) (l.notes ∷ []) l.traced);
  under_way : IsUnderWay l.seat (with_held l.next l.marking) l.notes;
  most : l.traced ≤ l.most;
  empty : l.next ≡ None → l.marking.list.items ≡ [];
}

abbrev pub decreases-loop-next : goal.decreases-loop-next
decreases-loop-next g l = weight (stage l.seat (with_held l.next l.marking) (l.notes ∷ []) l.traced)
