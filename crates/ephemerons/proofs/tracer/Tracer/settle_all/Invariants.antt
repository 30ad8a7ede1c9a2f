use Rattle.ephemerons.specs.Fixpoint.{weight}
use Rattle.ephemerons.specs.Tracers.{Keeps, Advances, GoesOnward, stage_of}
use Rattle.ephemerons.proofs.tracer.Tracer.settle_all.Given as goal

abbrev pub invariant-loop : goal.invariant-loop
invariant-loop g l = record {
  keeps : Keeps g.B.Bodywords.heap l.fn.self l.self;
  works : Advances l.fn.self l.self;
  looked : GoesOnward l.fn.self l.self;
}

abbrev pub decreases-loop : goal.decreases-loop
decreases-loop g l = weight (stage_of l.self)
