use Rattle.std.proofs.Common.{rules, ◌≡◌, ◌+◌, ◌<◌, ◌^◌, true, [], ◌∷◌, sym, ap, ◌∙◌, arith}
use Rattle.std.specs.List.{Contains}
use Rattle.std.proofs.lemmas.List.Elements.{Contains-push}
use Rattle.page_words.specs.Seat.{SeatView, is_grey_at}
use Rattle.ephemerons.specs.Fixpoint.{with_held}
use Rattle.ephemerons.proofs.GreySteps.{ReadsFields, fewer_untraced, grey_ground, grey_works, black_ground, black_looks}
use Rattle.ephemerons.proofs.NoPairs.{nothing_noted, none_noted}
use Rattle.ephemerons.proofs.UnderWaySteps.{strong_under_way, black_under_way}
use Rattle.ephemerons.proofs.stepping.trace_taken_pairless.Given as given
use Rattle.ephemerons.proofs.stepping.trace_taken_pairless.Goals as goal

pub overflow_add-traced : goal.overflow_add-traced
overflow_add-traced g c =
    let grey : is_grey_at c.args.seat.now c.args.place ≡ true = sym c.in-Some.ensures.grey in
    let place = c.bodies_lie_apart.ensures.marked_are_bodies c.args.place (c.requires.under_way.listed c.args.place (Contains-push c.args.marking.now.list.items c.args.place)) in
    let low : c.args.traced.now + 1 < 2 ^ 32 =
    omega (arith, fewer_untraced c.args.seat.now c.args.place c.bodies_lie_apart.ensures place grey, c.requires.ground.few) in
    search rules

read : (g : given.Over) (c : goal.After-trace_strong g)
    → ReadsFields c.args.types.now c.args.seat.now c.claim.new.seat c.trace_strong.new.seat c.args.marking.now
    (with_held c.trace_strong.result c.trace_strong.new.marking) c.args.notes.now c.args.notes.now c.args.place
read g c = record {
  view = c.bodies_lie_apart.ensures;
  place = c.bodies_lie_apart.ensures.marked_are_bodies c.args.place
      (c.requires.under_way.listed c.args.place (Contains-push c.args.marking.now.list.items c.args.place));
  grey = sym c.in-Some.ensures.grey;
  claimed = c.in-Some.ensures.claimed.marks;
  marks = c.trace_strong.ensures.marks;
  within = c.trace_strong.ensures.within;
  strong = c.trace_strong.ensures.strong;
  notes = nothing_noted c.args.types.now c.args.seat.now.bodies c.args.notes.now;
  pairs = λ fine. none_noted c.args.types.now c.args.seat.now c.trace_strong.new.seat c.args.place c.requires.ground.references c.requires.pairless
      (ap (λ (v : SeatView). v.bodies) c.trace_strong.ensures.marks.view ∙ ap (λ (v : SeatView). v.bodies) c.in-Some.ensures.claimed.marks)
      (Contains c.args.notes.now.notes);
  no_hand = c.trace_strong.ensures.hand;
  no_pending = c.trace_strong.ensures.marks.no_pending c.in-Some.ensures.claimed.no_pending;
}

pub returns-in-Some-clause-ground : goal.returns-in-Some-clause-ground
returns-in-Some-clause-ground g c =
    grey_ground c.args.types.now c.args.seat.now c.claim.new.seat c.trace_strong.new.seat c.args.marking.now
    (with_held c.trace_strong.result c.trace_strong.new.marking) (c.args.notes.now ∷ []) c.args.notes.now c.args.traced.now c.args.place (read g c)
    c.requires.ground

pub returns-in-Some-clause-works : goal.returns-in-Some-clause-works
returns-in-Some-clause-works g c =
    grey_works c.args.types.now c.args.seat.now c.claim.new.seat c.trace_strong.new.seat c.args.marking.now
    (with_held c.trace_strong.result c.trace_strong.new.marking) (c.args.notes.now ∷ []) c.args.notes.now c.args.traced.now c.args.place (read g c)
    c.requires.ground

pub returns-in-Some-clause-under_way : goal.returns-in-Some-clause-under_way
returns-in-Some-clause-under_way g c =
    strong_under_way c.args.types.now c.args.seat.now c.claim.new.seat c.trace_strong.new.seat c.args.marking.now
    (with_held c.trace_strong.result c.trace_strong.new.marking) c.args.notes.now c.args.place (read g c)
    (c.trace_strong.ensures.noted ∙ c.in-Some.ensures.claimed.noted) c.requires.under_way

pub returns-in-None-clause-ground : goal.returns-in-None-clause-ground
returns-in-None-clause-ground g c =
    black_ground c.args.types.now c.args.seat.now c.claim.new.seat c.args.marking.now (c.args.notes.now ∷ []) c.args.traced.now c.args.place
    c.in-None.ensures.failed (sym c.in-None.ensures.grey) c.requires.ground

pub returns-in-None-clause-works : goal.returns-in-None-clause-works
returns-in-None-clause-works g c =
    (black_looks c.args.types.now c.args.seat.now c.claim.new.seat c.args.marking.now (c.args.notes.now ∷ []) c.args.traced.now c.args.place
    c.in-None.ensures.failed (sym c.in-None.ensures.grey)).works

pub returns-in-None-clause-under_way : goal.returns-in-None-clause-under_way
returns-in-None-clause-under_way g c =
    black_under_way c.args.seat.now c.claim.new.seat c.args.marking.now c.args.notes.now c.args.place c.in-None.ensures.failed
    (sym c.in-None.ensures.grey) c.requires.under_way
