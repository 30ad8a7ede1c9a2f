use Rattle.ephemerons.specs.Fixpoint.{weight}
use Rattle.ephemerons.specs.Tracers.{Keeps, Advances, GoesOnward, stage_of}
use Rattle.ephemerons.proofs.tracer.Tracer.drain_alone.Given as goal

abbrev pub invariant-loop-place : goal.invariant-loop-place
invariant-loop-place g l = record {
  keeps : Keeps g.B.Bodywords.heap l.initial.self l.self;
  works : Advances l.initial.self l.self;
  looked : GoesOnward l.initial.self l.self;
}

abbrev pub decreases-loop-place : goal.decreases-loop-place
decreases-loop-place g l = weight (stage_of l.self)
