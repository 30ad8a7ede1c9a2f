use Rattle.std.proofs.Common.{arith}
use Rattle.mark_worklist.specs.OneMore.{one_longer}
use Rattle.mark_worklist.specs.Refusals.{refusals_of}
use Rattle.ephemerons.specs.Fixpoint.{mode_of}
use Rattle.ephemerons.specs.Tracers.{Keeps, Advances, GoesOnward, stage_of}
use Rattle.ephemerons.proofs.Onward.{onward_popped}
use Rattle.ephemerons.proofs.Stages.{ground_popped, mode_popped, Works-popped}
use Rattle.ephemerons.proofs.Tracers.{Keeps-then, Advances-then, GoesOnward-then}
use Rattle.ephemerons.proofs.tracer.Tracer.trace_next.Given as given
use Rattle.ephemerons.proofs.tracer.Tracer.trace_next.Goals as goal

pub trace_grey-requires-clause-ready : goal.trace_grey-requires-clause-ready
trace_grey-requires-clause-ready g c =
    let tracer = c.args.self.now in
    record {
      heap = c.requires.ready.heap;
      ground = (ground_popped tracer.types.now (stage_of tracer) c.pop.new.self.items c.in-Some.place
          (refusals_of (record tracer.marking.now { list = c.pop.new.self })) (mode_of (record tracer.marking.now { list = c.pop.new.self }))
          c.in-Some.ensures.items (mode_popped tracer.marking.now c.pop.new.self c.requires.ready.ground.whole c.pop.ensures.whole c.pop.ensures.shares) c.requires.ready.ground).0;
    }

pub trace_grey-requires-clause-place : goal.trace_grey-requires-clause-place
trace_grey-requires-clause-place g c =
    let tracer = c.args.self.now in
    (ground_popped tracer.types.now (stage_of tracer) c.pop.new.self.items c.in-Some.place
    (refusals_of (record tracer.marking.now { list = c.pop.new.self })) (mode_of (record tracer.marking.now { list = c.pop.new.self }))
    c.in-Some.ensures.items (mode_popped tracer.marking.now c.pop.new.self c.requires.ready.ground.whole c.pop.ensures.whole c.pop.ensures.shares) c.requires.ready.ground).1

-- the object that was taken from the list is traced
keeps : (g : given.Over) (c : goal.After-settle_under g) → Keeps g.B.Bodywords.heap c.args.self.now c.trace_grey.new.self
keeps g c =
    let k = c.trace_grey.ensures.keeps in
    record { space = k.space; types = k.types; seat = k.seat; marking = k.marking; groups = k.groups; ready = k.ready }

works : (g : given.Over) (c : goal.After-settle_under g) → Advances c.args.self.now c.trace_grey.new.self
works g c =
    let tracer = c.args.self.now in
    Works-popped tracer.types.now (stage_of tracer) (stage_of c.trace_grey.new.self) c.pop.new.self.items c.in-Some.place c.pop.new.self.refused
    (mode_of (record tracer.marking.now { list = c.pop.new.self })) c.in-Some.ensures.items c.pop.ensures.refused (mode_popped tracer.marking.now c.pop.new.self c.requires.ready.ground.whole c.pop.ensures.whole c.pop.ensures.shares) c.trace_grey.ensures.looks.works

looked : (g : given.Over) (c : goal.After-settle_under g) → GoesOnward c.args.self.now c.trace_grey.new.self
looked g c =
    let tracer = c.args.self.now in
    onward_popped tracer.types.now (stage_of tracer) (stage_of c.trace_grey.new.self) c.pop.new.self.items c.in-Some.place
    (refusals_of (record tracer.marking.now { list = c.pop.new.self })) (mode_of (record tracer.marking.now { list = c.pop.new.self })) c.in-Some.ensures.items
    c.trace_grey.ensures.looked

pub returns-in-Some-clause-keeps : goal.returns-in-Some-clause-keeps
returns-in-Some-clause-keeps g c = Keeps-then c.args.self.now c.trace_grey.new.self c.settle_under.new.self (keeps g c) c.settle_under.ensures.keeps

pub returns-in-Some-clause-works : goal.returns-in-Some-clause-works
returns-in-Some-clause-works g c =
    Advances-then c.args.self.now c.trace_grey.new.self c.settle_under.new.self (keeps g c) (works g c) c.settle_under.ensures.works

pub returns-in-Some-clause-looked : goal.returns-in-Some-clause-looked
returns-in-Some-clause-looked g c =
    GoesOnward-then c.args.self.now c.trace_grey.new.self c.settle_under.new.self (keeps g c) c.settle_under.ensures.works (looked g c)
    c.settle_under.ensures.looked

pub returns-in-Some-clause-found : goal.returns-in-Some-clause-found
returns-in-Some-clause-found g c told =
    omega (
      arith,
      one_longer c.pop.new.self.items c.args.self.now.marking.now.list.items c.in-Some.place c.in-Some.ensures.items,
      c.trace_grey.ensures.looks.works.lighter,
      c.settle_under.ensures.works.lighter,
    )
