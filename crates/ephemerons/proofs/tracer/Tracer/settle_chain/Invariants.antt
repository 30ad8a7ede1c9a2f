use Rattle.ephemerons.specs.Tracers.{Keeps, Advances, GoesOnward}
use Rattle.ephemerons.proofs.tracer.Tracer.settle_chain.Given as goal

abbrev pub invariant-loop-j : goal.invariant-loop-j
invariant-loop-j g l = record {
  keeps : Keeps g.B.Bodywords.heap l.fn.self l.self;
  works : Advances l.fn.self l.self;
  looked : GoesOnward l.fn.self l.self;
}

abbrev pub decreases-loop-j : goal.decreases-loop-j
decreases-loop-j g l = l.bound
