use Rattle.std.proofs.Common.{rules, ◌≡◌, ◌+◌, ◌<◌, ◌^◌, true, List, Some, sym, ap, ◌∙◌, subst, inl, arith}
use Rattle.std.specs.List.{Contains}
use Rattle.marker_core.specs.Bodies.{holds}
use Rattle.page_words.specs.Seat.{SeatView, is_grey_at}
use Rattle.pair_notes.specs.Notes.{NotesState, group_at}
use Rattle.ephemerons.specs.LookedAt.{IsLookedAt}
use Rattle.ephemerons.specs.LookedPlaces.{looked_nowhere, looked_as}
use Rattle.ephemerons.specs.Fixpoint.{IsGround, Works, stage, with_held}
use Rattle.ephemerons.proofs.GreySteps.{ReadsFields, fewer_untraced, grey_ground, grey_looks, black_ground, black_looks}
use Rattle.ephemerons.proofs.NoPairs.{nothing_noted, none_noted, same_groups}
use Rattle.ephemerons.proofs.Onward.{onward_looked, onward_marks, claimed_looks}
use Rattle.ephemerons.proofs.tracing.trace_pairless.Given as given
use Rattle.ephemerons.proofs.tracing.trace_pairless.Goals as goal

pub overflow_add-traced : goal.overflow_add-traced
overflow_add-traced g c =
    let grey : is_grey_at c.args.seat.now c.args.place ≡ true = sym c.in-Some.ensures.grey in
    let low : c.args.traced.now + 1 < 2 ^ 32 =
    omega (arith, fewer_untraced c.args.seat.now c.args.place c.bodies_lie_apart.ensures c.requires.place grey, c.requires.ground.few) in
    search rules

read : (g : given.Over) (c : goal.After-trace_strong g)
    → ReadsFields c.args.types.now c.args.seat.now c.claim.new.seat c.trace_strong.new.seat c.args.marking.now
    (with_held c.trace_strong.result c.trace_strong.new.marking) (group_at c.args.groups.now 0)
    (group_at c.args.groups.now 0) c.args.place
read g c = record {
  view = c.bodies_lie_apart.ensures;
  place = c.requires.place;
  grey = sym c.in-Some.ensures.grey;
  claimed = c.in-Some.ensures.claimed.marks;
  marks = c.trace_strong.ensures.marks;
  within = c.trace_strong.ensures.within;
  strong = c.trace_strong.ensures.strong;
  notes = nothing_noted c.args.types.now c.args.seat.now.bodies (group_at c.args.groups.now 0);
  pairs = λ fine. none_noted c.args.types.now c.args.seat.now c.trace_strong.new.seat c.args.place c.requires.ground.references c.requires.pairless
      (ap (λ (v : SeatView). v.bodies) c.trace_strong.ensures.marks.view ∙ ap (λ (v : SeatView). v.bodies) c.in-Some.ensures.claimed.marks)
      (Contains (group_at c.args.groups.now 0).notes);
  no_hand = c.trace_strong.ensures.hand;
  no_pending = c.trace_strong.ensures.marks.no_pending c.in-Some.ensures.claimed.no_pending;
}

pub returns-in-Some-clause-ground : goal.returns-in-Some-clause-ground
returns-in-Some-clause-ground g c =
    subst (λ (gs : List NotesState). IsGround c.args.types.now (stage c.trace_strong.new.seat (with_held c.trace_strong.result c.trace_strong.new.marking) gs (c.args.traced.now + 1)))
    (same_groups c.args.groups.now c.requires.ground.own)
    (grey_ground c.args.types.now c.args.seat.now c.claim.new.seat c.trace_strong.new.seat c.args.marking.now
    (with_held c.trace_strong.result c.trace_strong.new.marking) c.args.groups.now
    (group_at c.args.groups.now 0) c.args.traced.now c.args.place (read g c) c.requires.ground)

pub returns-in-Some-clause-works : goal.returns-in-Some-clause-works
returns-in-Some-clause-works g c =
    subst
    (λ (gs : List NotesState). Works c.args.types.now (Some c.args.place) (stage c.args.seat.now c.args.marking.now c.args.groups.now c.args.traced.now)
    (stage c.trace_strong.new.seat (with_held c.trace_strong.result c.trace_strong.new.marking) gs (c.args.traced.now + 1))) (same_groups c.args.groups.now c.requires.ground.own)
    (grey_looks c.args.types.now c.args.seat.now c.claim.new.seat c.trace_strong.new.seat c.args.marking.now
    (with_held c.trace_strong.result c.trace_strong.new.marking) c.args.groups.now
    (group_at c.args.groups.now 0) c.args.traced.now c.args.place (read g c) c.requires.ground).works

pub returns-in-None-clause-ground : goal.returns-in-None-clause-ground
returns-in-None-clause-ground g c =
    black_ground c.args.types.now c.args.seat.now c.claim.new.seat c.args.marking.now c.args.groups.now c.args.traced.now c.args.place
    c.in-None.ensures.failed (sym c.in-None.ensures.grey) c.requires.ground

pub returns-in-None-clause-works : goal.returns-in-None-clause-works
returns-in-None-clause-works g c =
    (black_looks c.args.types.now c.args.seat.now c.claim.new.seat c.args.marking.now c.args.groups.now c.args.traced.now c.args.place
    c.in-None.ensures.failed (sym c.in-None.ensures.grey)).works

pub returns-in-Some-clause-looked : goal.returns-in-Some-clause-looked
returns-in-Some-clause-looked g c here =
    let v = c.args.seat.now in
    let u = c.claim.new.seat in
    let w = c.trace_strong.new.seat in
    let marked : u.marked ≡ v.marked = ap (λ (x : SeatView). x.marked) c.in-Some.ensures.claimed.marks in
    let groups = c.args.groups.now in
    let before = c.args.marking.now in
    let next = with_held c.trace_strong.result c.trace_strong.new.marking in
    let traced = c.args.traced.now in
    onward_marks c.args.types.now v u w before next groups groups traced (traced + 1) marked c.trace_strong.ensures.marks c.args.place
    (λ note there. inl there) here
    (claimed_looks c.args.types.now v u w before next groups groups traced (traced + 1) marked c.trace_strong.ensures.marks c.args.place here
    c.claim.ensures.looked (looked_nowhere (IsLookedAt c.args.types.now w) u w c.trace_strong.ensures.looked))

pub returns-in-None-clause-looked : goal.returns-in-None-clause-looked
returns-in-None-clause-looked g c here =
    let v = c.args.seat.now in
    let u = c.claim.new.seat in
    let marked : u.marked ≡ v.marked = ap (λ (x : SeatView). x.marked) c.in-None.ensures.failed.marks in
    onward_looked c.args.types.now v u c.args.marking.now c.args.groups.now c.args.traced.now c.args.traced.now marked
    (looked_as (λ p. c.args.place ≡ p) (IsLookedAt c.args.types.now u) v u
    (λ p at. inl (subst (λ q. holds u.marked q ≡ true) at (subst (λ l. holds l c.args.place ≡ true) (sym marked) here))) c.claim.ensures.looked)
