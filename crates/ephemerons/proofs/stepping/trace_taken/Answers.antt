use Rattle.std.proofs.Common.{rules, ◌≡◌, ◌+◌, ◌<◌, ◌^◌, true, [], ◌∷◌, sym, ap, subst, arith}
use Rattle.std.proofs.lemmas.List.Elements.{Contains-push}
use Rattle.type_table.specs.Types.{declared_kinds}
use Rattle.type_table.specs.TracedWords.{traced_words_of}
use Rattle.page_words.specs.Seat.{SeatView, is_grey_at}
use Rattle.pair_notes.specs.Notes.{NotesGrow}
use Rattle.ephemerons.proofs.GreySteps.{ReadsFields, fewer_untraced, grey_ground, grey_works, black_ground, black_looks}
use Rattle.ephemerons.proofs.UnderWaySteps.{grey_noted, grey_under_way, black_under_way}
use Rattle.ephemerons.proofs.stepping.trace_taken.Given as given
use Rattle.ephemerons.proofs.stepping.trace_taken.Goals as goal

pub overflow_add-traced : goal.overflow_add-traced
overflow_add-traced g c =
    let grey : is_grey_at c.args.seat.now c.args.place ≡ true = sym c.in-Some.ensures.grey in
    let place = c.bodies_lie_apart.ensures.marked_are_bodies c.args.place (c.requires.under_way.listed c.args.place (Contains-push c.args.marking.now.list.items c.args.place)) in
    let low : c.args.traced.now + 1 < 2 ^ 32 =
    omega (arith, fewer_untraced c.args.seat.now c.args.place c.bodies_lie_apart.ensures place grey, c.requires.ground.few) in
    search rules

read : (g : given.Over) (c : goal.After-trace_fields g)
    → ReadsFields c.args.types.now c.args.seat.now c.claim.new.seat c.trace_fields.new.seat c.args.marking.now c.trace_fields.new.marking c.args.notes.now
    c.trace_fields.new.notes c.args.place
read g c = record {
  view = c.bodies_lie_apart.ensures;
  place = c.bodies_lie_apart.ensures.marked_are_bodies c.args.place
      (c.requires.under_way.listed c.args.place (Contains-push c.args.marking.now.list.items c.args.place));
  grey = sym c.in-Some.ensures.grey;
  claimed = c.in-Some.ensures.claimed.marks;
  marks = c.trace_fields.ensures.marks;
  within = c.trace_fields.ensures.within;
  strong = c.trace_fields.ensures.strong;
  notes = subst (λ bs. NotesGrow c.args.types.now bs c.args.notes.now c.trace_fields.new.notes)
      (ap (λ (v : SeatView). v.bodies) c.in-Some.ensures.claimed.marks) c.trace_fields.ensures.notes;
  pairs = c.trace_fields.ensures.pairs;
  no_hand = c.trace_fields.ensures.hand;
  no_pending = c.trace_fields.ensures.marks.no_pending c.in-Some.ensures.claimed.no_pending;
}

pub returns-in-Some-clause-ground : goal.returns-in-Some-clause-ground
returns-in-Some-clause-ground g c =
    grey_ground c.args.types.now c.args.seat.now c.claim.new.seat c.trace_fields.new.seat c.args.marking.now c.trace_fields.new.marking
    (c.args.notes.now ∷ []) c.trace_fields.new.notes c.args.traced.now c.args.place (read g c) c.requires.ground

pub returns-in-Some-clause-works : goal.returns-in-Some-clause-works
returns-in-Some-clause-works g c =
    grey_works c.args.types.now c.args.seat.now c.claim.new.seat c.trace_fields.new.seat c.args.marking.now c.trace_fields.new.marking
    (c.args.notes.now ∷ []) c.trace_fields.new.notes c.args.traced.now c.args.place (read g c) c.requires.ground

pub returns-in-Some-clause-under_way : goal.returns-in-Some-clause-under_way
returns-in-Some-clause-under_way g c =
    grey_under_way c.args.types.now c.args.seat.now c.claim.new.seat c.trace_fields.new.seat c.args.marking.now c.trace_fields.new.marking c.args.notes.now
    c.trace_fields.new.notes c.args.place (read g c) c.in-Some.ty (traced_words_of (declared_kinds c.args.types.now c.in-Some.ty)) c.in-Some.ensures.claimed.noted
    c.trace_fields.ensures.told c.requires.ground.known c.requires.under_way

pub returns-in-Some-clause-noted : goal.returns-in-Some-clause-noted
returns-in-Some-clause-noted g c =
    grey_noted c.args.types.now c.args.seat.now c.claim.new.seat c.trace_fields.new.seat c.args.marking.now c.trace_fields.new.marking c.args.notes.now
    c.trace_fields.new.notes c.args.place (read g c) c.in-Some.ty (traced_words_of (declared_kinds c.args.types.now c.in-Some.ty)) c.in-Some.ensures.claimed.noted
    c.trace_fields.ensures.told

pub returns-in_default-clause-ground : goal.returns-in_default-clause-ground
returns-in_default-clause-ground g c =
    black_ground c.args.types.now c.args.seat.now c.claim.new.seat c.args.marking.now (c.args.notes.now ∷ []) c.args.traced.now c.args.place
    c.in_default.ensures.failed (sym c.in_default.ensures.grey) c.requires.ground

pub returns-in_default-clause-works : goal.returns-in_default-clause-works
returns-in_default-clause-works g c =
    (black_looks c.args.types.now c.args.seat.now c.claim.new.seat c.args.marking.now (c.args.notes.now ∷ []) c.args.traced.now c.args.place
    c.in_default.ensures.failed (sym c.in_default.ensures.grey)).works

pub returns-in_default-clause-under_way : goal.returns-in_default-clause-under_way
returns-in_default-clause-under_way g c =
    black_under_way c.args.seat.now c.claim.new.seat c.args.marking.now c.args.notes.now c.args.place c.in_default.ensures.failed
    (sym c.in_default.ensures.grey) c.requires.under_way
