use Rattle.ephemerons.specs.Tracers.{Keeps, Advances, GoesOnward}
use Rattle.ephemerons.proofs.tracer.Tracer.settle_under.Given as goal

abbrev pub invariant-loop-i : goal.invariant-loop-i
invariant-loop-i g l = record {
  keeps : Keeps g.B.Bodywords.heap l.initial.self l.self;
  works : Advances l.initial.self l.self;
  looked : GoesOnward l.initial.self l.self;
}
