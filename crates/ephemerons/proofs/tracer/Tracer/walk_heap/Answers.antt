use Rattle.std.proofs.Common.{List, subst}
use Rattle.gc_graph.specs.State.{ObjectType}
use Rattle.pair_notes.specs.Marking.{IsOver}
use Rattle.ephemerons.proofs.Ends.{over_walked}
use Rattle.ephemerons.proofs.Tracers.{same_types, Keeps-then, Advances-then}
use Rattle.ephemerons.proofs.tracer.Tracer.walk_heap.Goals as goal

pub loop-preserved : goal.loop-preserved
loop-preserved g c = record {
  keeps = Keeps-then c.args.self.now c.loop.self c.walk_turn.new.self c.loop.invariant.keeps c.walk_turn.ensures.keeps;
  works = Advances-then c.args.self.now c.loop.self c.walk_turn.new.self c.loop.invariant.keeps c.loop.invariant.works c.walk_turn.ensures.works;
}

pub returns-clause-keeps : goal.returns-clause-keeps
returns-clause-keeps g c = Keeps-then c.args.self.now c.loop.self c.walk_turn.new.self c.loop.invariant.keeps c.walk_turn.ensures.keeps

pub returns-clause-works : goal.returns-clause-works
returns-clause-works g c =
    Advances-then c.args.self.now c.loop.self c.walk_turn.new.self c.loop.invariant.keeps c.loop.invariant.works c.walk_turn.ensures.works

pub returns-clause-over : goal.returns-clause-over
returns-clause-over g c =
    let end = c.walk_turn.new.self in
    subst (λ (ts : List ObjectType). IsOver ts end.seat.now) (same_types c.loop.invariant.keeps)
    (over_walked c.loop.self.types.now end.seat.now c.bodies_lie_apart.ensures
    (rw (same_types c.walk_turn.ensures.keeps) at c.walk_turn.ensures.keeps.ready.ground.traced_name_marked)
    (c.walk_turn.ensures.settled c.loop-test.false))
