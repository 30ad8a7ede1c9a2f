use Rattle.std.proofs.Common.{None}
use Rattle.ephemerons.specs.Fixpoint.{IsGround, Works, stage, weight, with_held}
use Rattle.ephemerons.specs.LookedAt.{LooksOnward}
use Rattle.ephemerons.proofs.draining.drain_pairless.Given as goal

abbrev pub invariant-loop-next : goal.invariant-loop-next
invariant-loop-next g l = record {
  ground : IsGround l.types (stage l.seat (with_held l.next l.marking) l.groups l.traced);
  works :
      Works l.types None (stage l.initial.seat (with_held l.initial.next l.initial.marking) l.groups l.initial.traced)
      (stage l.seat (with_held l.next l.marking) l.groups l.traced);
  looked :
      LooksOnward l.types (stage l.initial.seat (with_held l.initial.next l.initial.marking) l.groups l.initial.traced)
      (stage l.seat (with_held l.next l.marking) l.groups l.traced);
}

abbrev pub decreases-loop-next : goal.decreases-loop-next
decreases-loop-next g l = weight (stage l.seat (with_held l.next l.marking) l.groups l.traced)
