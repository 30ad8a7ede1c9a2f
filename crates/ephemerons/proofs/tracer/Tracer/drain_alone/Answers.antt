use Rattle.mark_worklist.specs.Refusals.{refusals_of}
use Rattle.ephemerons.specs.Fixpoint.{mode_of}
use Rattle.ephemerons.specs.Tracers.{Keeps, Advances, GoesOnward, stage_of}
use Rattle.ephemerons.proofs.Onward.{onward_popped}
use Rattle.ephemerons.proofs.Stages.{ground_popped, mode_popped, Works-popped}
use Rattle.ephemerons.proofs.Tracers.{Keeps-then, Advances-then, GoesOnward-then}
use Rattle.ephemerons.proofs.tracer.Tracer.drain_alone.Given as given
use Rattle.ephemerons.proofs.tracer.Tracer.drain_alone.Goals as goal

pub trace_grey-requires-clause-ready : goal.trace_grey-requires-clause-ready
trace_grey-requires-clause-ready g c = record {
  heap = c.loop-place.invariant.keeps.ready.heap;
  ground = (ground_popped c.loop-place.self.types.now (stage_of c.loop-place.self) c.pop.new.self.items c.in-Some.place
      (refusals_of (record c.loop-place.self.marking.now { list = c.pop.new.self })) (mode_of (record c.loop-place.self.marking.now { list = c.pop.new.self }))
      c.in-Some.ensures.items (mode_popped c.loop-place.self.marking.now c.pop.new.self c.loop-place.invariant.keeps.ready.ground.whole c.pop.ensures.whole c.pop.ensures.shares) c.loop-place.invariant.keeps.ready.ground).0;
}

pub trace_grey-requires-clause-place : goal.trace_grey-requires-clause-place
trace_grey-requires-clause-place g c =
    (ground_popped c.loop-place.self.types.now (stage_of c.loop-place.self) c.pop.new.self.items c.in-Some.place
    (refusals_of (record c.loop-place.self.marking.now { list = c.pop.new.self })) (mode_of (record c.loop-place.self.marking.now { list = c.pop.new.self }))
    c.in-Some.ensures.items (mode_popped c.loop-place.self.marking.now c.pop.new.self c.loop-place.invariant.keeps.ready.ground.whole c.pop.ensures.whole c.pop.ensures.shares) c.loop-place.invariant.keeps.ready.ground).1

-- the object that was taken from the list is traced
keeps : (g : given.Over) (c : goal.After-trace_grey g) → Keeps g.B.Bodywords.heap c.loop-place.self c.trace_grey.new.self
keeps g c =
    let k = c.trace_grey.ensures.keeps in
    record { space = k.space; types = k.types; seat = k.seat; marking = k.marking; groups = k.groups; ready = k.ready }

works : (g : given.Over) (c : goal.After-trace_grey g) → Advances c.loop-place.self c.trace_grey.new.self
works g c =
    Works-popped c.loop-place.self.types.now (stage_of c.loop-place.self) (stage_of c.trace_grey.new.self) c.pop.new.self.items c.in-Some.place c.pop.new.self.refused
    (mode_of (record c.loop-place.self.marking.now { list = c.pop.new.self })) c.in-Some.ensures.items c.pop.ensures.refused (mode_popped c.loop-place.self.marking.now c.pop.new.self c.loop-place.invariant.keeps.ready.ground.whole c.pop.ensures.whole c.pop.ensures.shares) c.trace_grey.ensures.looks.works

looked : (g : given.Over) (c : goal.After-trace_grey g) → GoesOnward c.loop-place.self c.trace_grey.new.self
looked g c =
    onward_popped c.loop-place.self.types.now (stage_of c.loop-place.self) (stage_of c.trace_grey.new.self) c.pop.new.self.items c.in-Some.place
    (refusals_of (record c.loop-place.self.marking.now { list = c.pop.new.self })) (mode_of (record c.loop-place.self.marking.now { list = c.pop.new.self })) c.in-Some.ensures.items
    c.trace_grey.ensures.looked

pub loop-place-preserved : goal.loop-place-preserved
loop-place-preserved g c = record {
  keeps = Keeps-then c.args.self.now c.loop-place.self c.trace_grey.new.self c.loop-place.invariant.keeps (keeps g c);
  works = Advances-then c.args.self.now c.loop-place.self c.trace_grey.new.self c.loop-place.invariant.keeps c.loop-place.invariant.works (works g c);
  looked = GoesOnward-then c.args.self.now c.loop-place.self c.trace_grey.new.self c.loop-place.invariant.keeps (works g c) c.loop-place.invariant.looked
      (looked g c);
}
