use Rattle.ephemerons.specs.Fixpoint.{weight}
use Rattle.ephemerons.specs.Tracers.{Keeps, Advances, GoesOnward, stage_of}
use Rattle.ephemerons.proofs.tracer.Tracer.drain_under_keys.Given as goal

abbrev pub invariant-loop : goal.invariant-loop
invariant-loop g l = record {
  keeps : Keeps g.B.Bodywords.heap l.initial.self l.self;
  works : Advances l.initial.self l.self;
  looked : GoesOnward l.initial.self l.self;
}

abbrev pub decreases-loop : goal.decreases-loop
decreases-loop g l = weight (stage_of l.self)
