use Rattle.std.proofs.Common.{◌≡◌, true, sym, ap, ◌∙◌, subst, inl}
use Rattle.type_table.specs.Types.{declared_kinds}
use Rattle.type_table.specs.TracedWords.{traced_words_of}
use Rattle.marker_core.specs.declared.states.Body.{Body}
use Rattle.marker_core.specs.Bodies.{holds}
use Rattle.page_words.specs.BodyPlaces.{same_body}
use Rattle.page_words.specs.Seat.{SeatView}
use Rattle.pair_notes.specs.BodyGraph.{HasType}
use Rattle.ephemerons.specs.Traces.{Traces}
use Rattle.ephemerons.specs.ListedMarks.{ListsMarks-then, lists_looked}
use Rattle.ephemerons.specs.LookedAt.{IsLookedAt}
use Rattle.ephemerons.specs.LookedPlaces.{looked_once, looked_then}
use Rattle.ephemerons.proofs.OnlyLooks.{grows_from}
use Rattle.ephemerons.proofs.Traced.{traces_from}
use Rattle.ephemerons.proofs.tracing.trace.Goals as goal

pub returns-clause-within : goal.returns-clause-within
returns-clause-within g c =
    grows_from c.args.seat.now c.type_of-ty.new.seat c.type_of-ty.ensures.view c.args.types.now c.trace_fields.new.seat c.trace_fields.ensures.within

pub returns-clause-marks : goal.returns-clause-marks
returns-clause-marks g c =
    ListsMarks-then c.args.seat.now c.type_of-ty.new.seat c.trace_fields.new.seat c.args.marking.now c.args.marking.now c.trace_fields.new.marking
    (lists_looked c.args.seat.now c.type_of-ty.new.seat c.args.marking.now c.type_of-ty.ensures.view) c.trace_fields.ensures.marks

pub returns-clause-told : goal.returns-clause-told
returns-clause-told g c ty has =
    let known : HasType c.args.seat.now.bodies c.args.place c.type_of-ty.result = c.type_of-ty.ensures.body in
    let one : known.0 ≡ has.0 = same_body c.args.seat.now known.0 has.0 c.bodies_lie_apart.ensures known.1 has.1 (known.2 ∙ sym has.2) in
    let same : c.type_of-ty.result ≡ ty = sym known.3 ∙ ap (λ (b : Body). b.ty) one ∙ has.3 in
    subst (λ t. Traces c.args.seat.now c.args.notes.now c.trace_fields.new.seat c.trace_fields.new.notes c.args.place (traced_words_of (declared_kinds c.args.types.now t)))
    same
    (traces_from c.args.seat.now c.type_of-ty.new.seat c.type_of-ty.ensures.view c.args.notes.now c.trace_fields.new.seat c.trace_fields.new.notes c.args.place
    (traced_words_of (declared_kinds c.args.types.now c.type_of-ty.result)) c.trace_fields.ensures.told)

pub returns-clause-looked : goal.returns-clause-looked
returns-clause-looked g c =
    let v = c.args.seat.now in
    let u = c.type_of-ty.new.seat in
    let w = c.trace_fields.new.seat in
    let marked : holds v.marked c.args.place ≡ true =
    c.bodies_lie_apart.ensures.traced_are_marked c.requires.tracing.none_lent c.args.place c.requires.claimed in
    let yet : holds w.marked c.args.place ≡ true =
    c.trace_fields.ensures.marks.marked c.args.place (subst (λ (x : SeatView). holds x.marked c.args.place ≡ true) (sym c.type_of-ty.ensures.view) marked) in
    looked_then (IsLookedAt c.args.types.now w) v u w (looked_once (IsLookedAt c.args.types.now w) v u c.args.place c.type_of-ty.ensures.looked (inl yet))
    c.trace_fields.ensures.looked
