use Rattle.std.proofs.Common.{◌≡◌, [], ◌∷◌, List, Option, Some, None, ℕ, sym, subst, arith}
use Rattle.std.specs.Prelude.{IfNone}
use Rattle.pair_notes.specs.Notes.{NotesState}
use Rattle.ephemerons.specs.UnderWay.{IsUnderWay}
use Rattle.ephemerons.specs.Fixpoint.{IsGround, Works, stage, with_held}
use Rattle.ephemerons.proofs.Stages.{Works-same, Works-then}
use Rattle.ephemerons.proofs.Holding.{still_ground, still_works, held_works, held_ground}
use Rattle.ephemerons.proofs.UnderWaySteps.{listed_under_way, listed_works, still_under_way}
use Rattle.ephemerons.proofs.stepping.step_pairless.Goals as goal

pub loop-next-init : goal.loop-next-init
loop-next-init g c =
    let notes : List NotesState = c.args.notes.now ∷ [] in
    record {
      ground = still_ground c.args.marking.now c.next_listed-next.new.marking None c.next_listed-next.result c.next_listed-next.ensures.next c.args.seat.now
          notes 0 c.args.types.now c.requires.ground;
      works = Works-same c.args.types.now _;
      under_way = still_under_way c.args.seat.now c.args.marking.now c.next_listed-next.new.marking None c.next_listed-next.result c.args.notes.now
          c.next_listed-next.ensures.next c.requires.under_way;
      most = omega arith;
      empty = λ is. subst (λ (next : Option ℕ). IfNone next (c.next_listed-next.new.marking.list.items ≡ [])) is c.next_listed-next.ensures.none;
    }

pub trace_taken_pairless-held-requires-clause-ground : goal.trace_taken_pairless-held-requires-clause-ground
trace_taken_pairless-held-requires-clause-ground g c =
    held_ground c.args.types.now c.loop-next.seat c.loop-next.marking (c.args.notes.now ∷ []) c.loop-next.traced c.in-Some.place
    (subst (λ (next : Option ℕ). IsGround c.args.types.now (stage c.loop-next.seat (with_held next c.loop-next.marking) (c.args.notes.now ∷ []) c.loop-next.traced))
    c.in-Some.is c.loop-next.invariant.ground)

pub loop-next-preserved : goal.loop-next-preserved
loop-next-preserved g c =
    let notes : List NotesState = c.args.notes.now ∷ [] in
    record {
      ground = still_ground c.trace_taken_pairless-held.new.marking c.next_listed-next-in-Some.new.marking c.trace_taken_pairless-held.result
          c.next_listed-next-in-Some.result c.next_listed-next-in-Some.ensures.next c.trace_taken_pairless-held.new.seat notes
          c.trace_taken_pairless-held.new.traced c.args.types.now c.trace_taken_pairless-held.ensures.ground;
      works =
          Works-then c.args.types.now None _ _ _ c.loop-next.invariant.works
          (Works-then c.args.types.now None _ _ _
          (subst
          (λ (next : Option ℕ). Works c.args.types.now None (stage c.loop-next.seat (with_held next c.loop-next.marking) notes c.loop-next.traced)
          (stage c.trace_taken_pairless-held.new.seat (with_held c.trace_taken_pairless-held.result c.trace_taken_pairless-held.new.marking) notes
          c.trace_taken_pairless-held.new.traced)) (sym c.in-Some.is)
          (held_works c.args.types.now c.loop-next.seat c.loop-next.marking notes c.loop-next.traced c.in-Some.place _ c.trace_taken_pairless-held.ensures.works))
          (still_works c.trace_taken_pairless-held.new.marking c.next_listed-next-in-Some.new.marking c.trace_taken_pairless-held.result
          c.next_listed-next-in-Some.result c.next_listed-next-in-Some.ensures.next c.trace_taken_pairless-held.new.seat notes
          c.trace_taken_pairless-held.new.traced c.args.types.now));
      under_way = still_under_way c.trace_taken_pairless-held.new.seat c.trace_taken_pairless-held.new.marking c.next_listed-next-in-Some.new.marking
          c.trace_taken_pairless-held.result c.next_listed-next-in-Some.result c.args.notes.now c.next_listed-next-in-Some.ensures.next
          c.trace_taken_pairless-held.ensures.under_way;
      most = omega (arith, c.trace_taken_pairless-held.ensures.one, c.if-traced-most.false, c.loop-next.invariant.most);
      empty = λ is.
          subst (λ (next : Option ℕ). IfNone next (c.next_listed-next-in-Some.new.marking.list.items ≡ [])) is c.next_listed-next-in-Some.ensures.none;
    }

-- ---- the budget is spent: what would be traced next is listed again

pub returns-then-traced-most-clause-works : goal.returns-then-traced-most-clause-works
returns-then-traced-most-clause-works g c =
    let notes : List NotesState = c.args.notes.now ∷ [] in
    Works-then c.args.types.now None _ _ _
    (still_works c.args.marking.now c.next_listed-next.new.marking None c.next_listed-next.result c.next_listed-next.ensures.next c.args.seat.now notes 0
    c.args.types.now)
    (Works-then c.args.types.now None _ _ _
    (subst
    (λ (next : Option ℕ). Works c.args.types.now None (stage c.args.seat.now (with_held c.next_listed-next.result c.next_listed-next.new.marking) notes 0)
    (stage c.loop-next.seat (with_held next c.loop-next.marking) notes c.loop-next.traced)) c.in-Some.is c.loop-next.invariant.works)
    (listed_works c.args.types.now c.loop-next.seat c.loop-next.marking c.list_held.new.marking (Some c.in-Some.place) notes c.loop-next.traced
    c.list_held.ensures.listed))

pub returns-then-traced-most-clause-under_way : goal.returns-then-traced-most-clause-under_way
returns-then-traced-most-clause-under_way g c =
    listed_under_way c.loop-next.seat c.loop-next.marking c.list_held.new.marking (Some c.in-Some.place) c.args.notes.now c.list_held.ensures.listed
    (subst (λ (next : Option ℕ). IsUnderWay c.loop-next.seat (with_held next c.loop-next.marking) c.args.notes.now) c.in-Some.is c.loop-next.invariant.under_way)

-- ---- the list came to its end

pub returns-clause-works : goal.returns-clause-works
returns-clause-works g c =
    let notes : List NotesState = c.args.notes.now ∷ [] in
    Works-then c.args.types.now None _ _ _
    (still_works c.args.marking.now c.next_listed-next.new.marking None c.next_listed-next.result c.next_listed-next.ensures.next c.args.seat.now notes 0
    c.args.types.now)
    (subst
    (λ (next : Option ℕ). Works c.args.types.now None (stage c.args.seat.now (with_held c.next_listed-next.result c.next_listed-next.new.marking) notes 0)
    (stage c.loop-next.seat (with_held next c.loop-next.marking) notes c.loop-next.traced)) c.in_default.is c.loop-next.invariant.works)

pub returns-clause-done : goal.returns-clause-done
returns-clause-done g c fewer = c.loop-next.invariant.empty c.in_default.is
