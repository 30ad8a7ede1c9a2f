use Rattle.std.proofs.Common.{◌≡◌, ℕ, ◌-◌, ◌<◌, false}
use Rattle.marker_core.specs.Bodies.{IsPlace}
use Rattle.ephemerons.specs.Fixpoint.{IsSettledAt}
use Rattle.ephemerons.specs.Tracers.{Keeps, Searches}
use Rattle.ephemerons.proofs.tracer.Tracer.settle_objects.Given as goal

abbrev pub invariant-loop-a : goal.invariant-loop-a
invariant-loop-a g l = record {
  keeps : Keeps g.B.Bodywords.heap l.initial.self l.self;
  looks : Searches l.initial.self l.self l.found;
  settled : l.found ≡ false → (p : ℕ) → p < l.from → IsPlace l.self.seat.now.bodies p → IsSettledAt l.initial.self.types.now l.self.seat.now p;
}

abbrev pub decreases-loop-a : goal.decreases-loop-a
decreases-loop-a g l = l.self.seat.now.count - l.from
