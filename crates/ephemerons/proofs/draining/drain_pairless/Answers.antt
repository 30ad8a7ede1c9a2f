use Rattle.std.proofs.Common.{◌<◌, Option, None, ℕ, sym, subst, arith}
use Rattle.ephemerons.specs.Fixpoint.{IsGround, Works, stage, weight, with_held}
use Rattle.ephemerons.specs.LookedAt.{LooksOnward}
use Rattle.ephemerons.proofs.Onward.{onward_same, onward_then, onward_still, onward_held}
use Rattle.ephemerons.proofs.Stages.{MarksOn-same, Works-same, Works-then}
use Rattle.ephemerons.proofs.Holding.{still_ground, still_works, still_weighs, held_works, held_ground, held_place, held_heavier}
use Rattle.ephemerons.proofs.draining.drain_pairless.Given as given
use Rattle.ephemerons.proofs.draining.drain_pairless.Goals as goal

pub loop-next-init : goal.loop-next-init
loop-next-init g c = record {
  ground = still_ground c.args.marking.now c.next_listed-next.new.marking None c.next_listed-next.result c.next_listed-next.ensures.next c.args.seat.now
      c.args.groups.now c.args.traced.now c.args.types.now c.requires.ground;
  works = Works-same c.args.types.now _;
  looked = onward_same c.args.types.now _;
}

pub trace_pairless-held-requires-clause-ground : goal.trace_pairless-held-requires-clause-ground
trace_pairless-held-requires-clause-ground g c =
    held_ground c.args.types.now c.loop-next.seat c.loop-next.marking c.args.groups.now c.loop-next.traced c.in-Some.place
    (subst (λ (next : Option ℕ). IsGround c.args.types.now (stage c.loop-next.seat (with_held next c.loop-next.marking) c.args.groups.now c.loop-next.traced))
    c.in-Some.is c.loop-next.invariant.ground)

pub trace_pairless-held-requires-clause-place : goal.trace_pairless-held-requires-clause-place
trace_pairless-held-requires-clause-place g c =
    held_place c.args.types.now c.loop-next.seat c.loop-next.marking c.args.groups.now c.loop-next.traced c.in-Some.place
    (subst (λ (next : Option ℕ). IsGround c.args.types.now (stage c.loop-next.seat (with_held next c.loop-next.marking) c.args.groups.now c.loop-next.traced))
    c.in-Some.is c.loop-next.invariant.ground)

-- one turn of the loop, up to what is held back then
works : (g : given.Over) (c : goal.After-next_listed-next-in-Some g)
    → Works c.args.types.now None (stage c.loop-next.seat (with_held c.loop-next.next c.loop-next.marking) c.args.groups.now c.loop-next.traced)
    (stage c.trace_pairless-held.new.seat (with_held c.trace_pairless-held.result c.trace_pairless-held.new.marking) c.args.groups.now
    c.trace_pairless-held.new.traced)
works g c =
    subst
    (λ (next : Option ℕ). Works c.args.types.now None (stage c.loop-next.seat (with_held next c.loop-next.marking) c.args.groups.now c.loop-next.traced)
    (stage c.trace_pairless-held.new.seat (with_held c.trace_pairless-held.result c.trace_pairless-held.new.marking) c.args.groups.now
    c.trace_pairless-held.new.traced)) (sym c.in-Some.is)
    (held_works c.args.types.now c.loop-next.seat c.loop-next.marking c.args.groups.now c.loop-next.traced c.in-Some.place _
    c.trace_pairless-held.ensures.works)

turned : (g : given.Over) (c : goal.After-next_listed-next-in-Some g)
    → LooksOnward c.args.types.now (stage c.loop-next.seat (with_held c.loop-next.next c.loop-next.marking) c.args.groups.now c.loop-next.traced)
    (stage c.trace_pairless-held.new.seat (with_held c.next_listed-next-in-Some.result c.next_listed-next-in-Some.new.marking) c.args.groups.now
    c.trace_pairless-held.new.traced)
turned g c =
    let types = c.args.types.now in
    let groups = c.args.groups.now in
    let now = stage c.trace_pairless-held.new.seat (with_held c.trace_pairless-held.result c.trace_pairless-held.new.marking) groups
    c.trace_pairless-held.new.traced in
    onward_then types _ now _ (MarksOn-same c.trace_pairless-held.new.seat)
    (subst (λ (next : Option ℕ). LooksOnward types (stage c.loop-next.seat (with_held next c.loop-next.marking) groups c.loop-next.traced) now)
    (sym c.in-Some.is)
    (onward_held types c.loop-next.seat c.loop-next.marking c.in-Some.place groups c.loop-next.traced now c.trace_pairless-held.ensures.looked))
    (onward_still types c.trace_pairless-held.new.seat c.trace_pairless-held.new.marking c.next_listed-next-in-Some.new.marking
    c.trace_pairless-held.result c.next_listed-next-in-Some.result groups c.trace_pairless-held.new.traced c.next_listed-next-in-Some.ensures.next)

pub loop-next-smaller : goal.loop-next-smaller
loop-next-smaller g c =
    subst
    (λ (next : Option ℕ). weight (stage c.trace_pairless-held.new.seat (with_held c.next_listed-next-in-Some.result c.next_listed-next-in-Some.new.marking)
    c.args.groups.now c.trace_pairless-held.new.traced)
    < weight (stage c.loop-next.seat (with_held next c.loop-next.marking) c.args.groups.now c.loop-next.traced)) (sym c.in-Some.is)
    (omega (
      arith,
      still_weighs c.trace_pairless-held.new.marking c.next_listed-next-in-Some.new.marking c.trace_pairless-held.result c.next_listed-next-in-Some.result
          c.next_listed-next-in-Some.ensures.next c.trace_pairless-held.new.seat c.args.groups.now c.trace_pairless-held.new.traced,
      c.trace_pairless-held.ensures.works.lighter,
      held_heavier c.loop-next.seat c.loop-next.marking c.args.groups.now c.loop-next.traced c.in-Some.place,
    ))

pub loop-next-preserved : goal.loop-next-preserved
loop-next-preserved g c = record {
  ground = still_ground c.trace_pairless-held.new.marking c.next_listed-next-in-Some.new.marking c.trace_pairless-held.result
      c.next_listed-next-in-Some.result c.next_listed-next-in-Some.ensures.next c.trace_pairless-held.new.seat c.args.groups.now
      c.trace_pairless-held.new.traced c.args.types.now c.trace_pairless-held.ensures.ground;
  works =
      Works-then c.args.types.now None _ _ _ c.loop-next.invariant.works
      (Works-then c.args.types.now None _ _ _ (works g c)
      (still_works c.trace_pairless-held.new.marking c.next_listed-next-in-Some.new.marking c.trace_pairless-held.result c.next_listed-next-in-Some.result
      c.next_listed-next-in-Some.ensures.next c.trace_pairless-held.new.seat c.args.groups.now c.trace_pairless-held.new.traced c.args.types.now));
  looked = onward_then c.args.types.now _ _ _ c.trace_pairless-held.ensures.works.kept c.loop-next.invariant.looked (turned g c);
}

pub returns-clause-ground : goal.returns-clause-ground
returns-clause-ground g c =
    subst (λ (next : Option ℕ). IsGround c.args.types.now (stage c.loop-next.seat (with_held next c.loop-next.marking) c.args.groups.now c.loop-next.traced))
    c.in_default.is c.loop-next.invariant.ground

pub returns-clause-works : goal.returns-clause-works
returns-clause-works g c =
    Works-then c.args.types.now None _ _ _
    (still_works c.args.marking.now c.next_listed-next.new.marking None c.next_listed-next.result c.next_listed-next.ensures.next c.args.seat.now
    c.args.groups.now c.args.traced.now c.args.types.now)
    (subst
    (λ (next : Option ℕ). Works c.args.types.now None
    (stage c.args.seat.now (with_held c.next_listed-next.result c.next_listed-next.new.marking) c.args.groups.now c.args.traced.now)
    (stage c.loop-next.seat (with_held next c.loop-next.marking) c.args.groups.now c.loop-next.traced)) c.in_default.is c.loop-next.invariant.works)

pub returns-clause-looked : goal.returns-clause-looked
returns-clause-looked g c =
    onward_then c.args.types.now _ _ _ c.loop-next.invariant.works.kept
    (onward_still c.args.types.now c.args.seat.now c.args.marking.now c.next_listed-next.new.marking None c.next_listed-next.result c.args.groups.now
    c.args.traced.now c.next_listed-next.ensures.next)
    (subst
    (λ (next : Option ℕ). LooksOnward c.args.types.now
    (stage c.args.seat.now (with_held c.next_listed-next.result c.next_listed-next.new.marking) c.args.groups.now c.args.traced.now)
    (stage c.loop-next.seat (with_held next c.loop-next.marking) c.args.groups.now c.loop-next.traced)) c.in_default.is c.loop-next.invariant.looked)
