use Rattle.std.proofs.Common.{List, subst}
use Rattle.gc_graph.specs.State.{ObjectType}
use Rattle.pair_notes.specs.Marking.{TracedNameMarked}
use Rattle.ephemerons.specs.Fixpoint.{NoteIsSettled}
use Rattle.ephemerons.proofs.Ends.{over_settled}
use Rattle.ephemerons.proofs.Tracers.{same_types, Keeps-then, Advances-then, GoesOnward-then}
use Rattle.ephemerons.proofs.tracer.Tracer.settle_all.Goals as goal

pub loop-preserved : goal.loop-preserved
loop-preserved g c = record {
  keeps = Keeps-then c.args.self.now c.loop.self c.turn.new.self c.loop.invariant.keeps c.turn.ensures.keeps;
  works = Advances-then c.args.self.now c.loop.self c.turn.new.self c.loop.invariant.keeps c.loop.invariant.works c.turn.ensures.works;
  looked = GoesOnward-then c.args.self.now c.loop.self c.turn.new.self c.loop.invariant.keeps c.turn.ensures.works c.loop.invariant.looked c.turn.ensures.looked;
}

pub returns-clause-keeps : goal.returns-clause-keeps
returns-clause-keeps g c = Keeps-then c.args.self.now c.loop.self c.turn.new.self c.loop.invariant.keeps c.turn.ensures.keeps

pub returns-clause-works : goal.returns-clause-works
returns-clause-works g c = Advances-then c.args.self.now c.loop.self c.turn.new.self c.loop.invariant.keeps c.loop.invariant.works c.turn.ensures.works

pub returns-clause-looked : goal.returns-clause-looked
returns-clause-looked g c = GoesOnward-then c.args.self.now c.loop.self c.turn.new.self c.loop.invariant.keeps c.turn.ensures.works c.loop.invariant.looked c.turn.ensures.looked

pub returns-clause-over : goal.returns-clause-over
returns-clause-over g c fine known =
    let keeps = c.loop.invariant.keeps in
    let after = Keeps-then c.args.self.now c.loop.self c.turn.new.self keeps c.turn.ensures.keeps in
    over_settled c.args.self.now.types.now c.turn.new.self.seat.now c.turn.new.self.marking.now.list.items c.turn.new.self.groups.now c.bodies_lie_apart.ensures
    (subst (λ (ts : List ObjectType). TracedNameMarked ts c.turn.new.self.seat.now) (same_types after) c.turn.ensures.keeps.ready.ground.traced_name_marked)
    (c.turn.ensures.list c.loop-test.false)
    (λ note noted. subst (λ (ts : List ObjectType). NoteIsSettled ts c.turn.new.self.seat.now note) (same_types keeps) (c.turn.ensures.settled c.loop-test.false note noted))
    ((Advances-then c.args.self.now c.loop.self c.turn.new.self keeps c.loop.invariant.works c.turn.ensures.works).accounted fine known)
