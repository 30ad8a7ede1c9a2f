use Rattle.std.proofs.Common.{[], ◌∷◌, None, refl, sym, subst, inl, inr, arith}
use Rattle.mark_worklist.specs.Refusals.{refusals_of}
use Rattle.pair_notes.specs.BodyGraph.{BodyHasPair}
use Rattle.ephemerons.specs.Fixpoint.{mode_of, stage}
use Rattle.ephemerons.proofs.Stages.{mode_popped, Works-same, Works-then, Works-popped, ground_popped}
use Rattle.ephemerons.proofs.UnderWaySteps.{held_under_way}
use Rattle.ephemerons.proofs.stepping.step_with_notes.Goals as goal

pub loop-traced-init : goal.loop-traced-init
loop-traced-init g c = record {
  ground = c.requires.ground;
  works = Works-same c.args.types.now (stage c.args.seat.now c.args.marking.now (c.args.notes.now ∷ []) 0);
  under_way = c.requires.under_way;
  noted = λ note there. inl there;
  most = omega arith;
}

pub trace_taken-requires-clause-ground : goal.trace_taken-requires-clause-ground
trace_taken-requires-clause-ground g c =
    (ground_popped c.args.types.now (stage c.loop-traced.seat c.loop-traced.marking (c.loop-traced.notes ∷ []) c.loop-traced.traced) c.pop.new.self.items
    c.in-Some.place (refusals_of (record c.loop-traced.marking { list = c.pop.new.self })) (mode_of (record c.loop-traced.marking { list = c.pop.new.self }))
    c.in-Some.ensures.items (mode_popped c.loop-traced.marking c.pop.new.self c.loop-traced.invariant.ground.whole c.pop.ensures.whole c.pop.ensures.shares) c.loop-traced.invariant.ground).0

pub trace_taken-requires-clause-under_way : goal.trace_taken-requires-clause-under_way
trace_taken-requires-clause-under_way g c =
    held_under_way c.loop-traced.seat c.loop-traced.marking (record c.loop-traced.marking { list = c.pop.new.self }) c.loop-traced.notes c.in-Some.place
    c.in-Some.ensures.items (mode_popped c.loop-traced.marking c.pop.new.self c.loop-traced.invariant.ground.whole c.pop.ensures.whole c.pop.ensures.shares) refl
    c.loop-traced.invariant.under_way

pub loop-traced-preserved : goal.loop-traced-preserved
loop-traced-preserved g c = record {
  ground = c.trace_taken.ensures.ground;
  works =
      Works-then c.args.types.now None _ _ _ c.loop-traced.invariant.works
      (Works-popped c.args.types.now (stage c.loop-traced.seat c.loop-traced.marking (c.loop-traced.notes ∷ []) c.loop-traced.traced)
      (stage c.trace_taken.new.seat c.trace_taken.new.marking (c.trace_taken.new.notes ∷ []) c.trace_taken.new.traced) c.pop.new.self.items c.in-Some.place
      c.pop.new.self.refused (mode_of (record c.loop-traced.marking { list = c.pop.new.self })) c.in-Some.ensures.items c.pop.ensures.refused
      (mode_popped c.loop-traced.marking c.pop.new.self c.loop-traced.invariant.ground.whole c.pop.ensures.whole c.pop.ensures.shares) c.trace_taken.ensures.works);
  under_way = c.trace_taken.ensures.under_way;
  noted = λ note there. elim (c.trace_taken.ensures.noted note there) [
    | inl before ↦ elim (c.loop-traced.invariant.noted note before) [
      | inl first ↦ inl first
      | inr later ↦ inr (
        subst (λ bs. BodyHasPair c.args.types.now bs note.holder note.word) (sym c.trace_taken.ensures.works.kept.bodies) later.0,
        c.trace_taken.ensures.works.kept.traced note.holder later.1,
      )
    ]
    | inr new ↦ inr new
  ];
  most = omega (arith, c.trace_taken.ensures.one, c.loop-traced-test.true);
}

pub returns-clause-done : goal.returns-clause-done
returns-clause-done g c fewer = absurd (omega (arith, fewer, c.loop-traced-test.false))
