use Rattle.std.proofs.Common.{rules, ◌≡◌, ◌+◌, ◌<◌, ◌^◌, ◌++◌, [], ◌∷◌, true, sym, ap, ◌∙◌, subst, inl, inr, arith}
use Rattle.std.specs.List.{Contains}
use Rattle.std.proofs.lemmas.List.{append-nil}
use Rattle.marker_core.specs.Bodies.{holds}
use Rattle.marker_core.specs.declared.states.Part.TheVariants.{Read}
use Rattle.page_words.specs.Seat.{SeatView}
use Rattle.pair_notes.specs.Marking.{heap_and_marks}
use Rattle.pair_notes.specs.BodyGraph.{BodyHasWord}
use Rattle.ephemerons.specs.Traces.{noted_unless}
use Rattle.ephemerons.specs.ListedMarks.{ListsMarks-then}
use Rattle.ephemerons.specs.LookedAt.{IsLookedAt}
use Rattle.ephemerons.specs.LookedPlaces.{looked_nowhere}
use Rattle.pair_notes.specs.FieldWords.{value_there, word_below, pair_in_hand, at_value}
use Rattle.ephemerons.proofs.Graph.{pair_within}
use Rattle.ephemerons.proofs.Holding.{fresh_listed}
use Rattle.ephemerons.proofs.MarkSteps.{looks_list, same_bodies}
use Rattle.ephemerons.proofs.NoteSteps.{pair_asked}
use Rattle.ephemerons.proofs.Onward.{key_looked}
use Rattle.ephemerons.proofs.Traced.{null_traces, kept_traces, waiting_traces}
use Rattle.ephemerons.proofs.pair_fields.trace_pair.Goals as goal

pub overflow_add-offset : goal.overflow_add-offset
overflow_add-offset g c =
    let v = c.args.seat.now in
    let there = value_there v c.args.holder c.args.offset c.bodies_lie_apart.ensures (pair_in_hand v c.args.holder c.args.offset Read c.requires.hand) in
    let low : c.args.offset + 1 < 2 ^ 32 =
    omega (arith, word_below v c.args.holder (c.args.offset + 1) c.bodies_lie_apart.ensures there, c.bodies_lie_apart.ensures.count) in
    search rules

pub trace_target-fresh-requires-clause-field : goal.trace_target-fresh-requires-clause-field
trace_target-fresh-requires-clause-field g c =
    let v = c.args.seat.now in
    let same : heap_and_marks c.key_is_marked.new.seat ≡ heap_and_marks v = c.key_is_marked.ensures.view ∙ c.read_key.ensures.view in
    subst (λ bs. BodyHasWord bs c.args.holder (c.args.offset + 1)) (sym (ap (λ (x : SeatView). x.bodies) same))
    (value_there v c.args.holder c.args.offset c.bodies_lie_apart.ensures (pair_in_hand v c.args.holder c.args.offset Read c.requires.hand))

pub trace_target-fresh-requires-clause-hand : goal.trace_target-fresh-requires-clause-hand
trace_target-fresh-requires-clause-hand g c =
    at_value c.key_is_marked.new.seat c.args.holder c.args.offset (c.key_is_marked.ensures.hand c.if-key_is_marked.true)

pub returns-then-key_is_marked-clause-marks : goal.returns-then-key_is_marked-clause-marks
returns-then-key_is_marked-clause-marks g c =
    let v = c.args.seat.now in
    let u = c.key_is_marked.new.seat in
    ListsMarks-then v u c.trace_target-fresh.new.seat c.args.marking.now c.args.marking.now c.list_held.new.marking
    (looks_list v u c.args.marking.now (c.key_is_marked.ensures.view ∙ c.read_key.ensures.view)
    (c.key_is_marked.ensures.pending ∙ sym c.requires.tracing.no_pending) (λ none. cc (none, c.requires.hand.hand)))
    (fresh_listed u c.trace_target-fresh.new.seat c.args.marking.now c.list_held.new.marking c.trace_target-fresh.result c.trace_target-fresh.ensures.marks
    c.list_held.ensures.listed)

pub returns-then-key_is_marked-clause-within : goal.returns-then-key_is_marked-clause-within
returns-then-key_is_marked-clause-within g c =
    let v = c.args.seat.now in
    let u = c.key_is_marked.new.seat in
    let at = c.requires.hand in
    let same : heap_and_marks u ≡ heap_and_marks v = c.key_is_marked.ensures.view ∙ c.read_key.ensures.view in
    let key_marked : holds v.marked c.in-Some.key ≡ true =
    sym (ap (λ (x : SeatView). holds x.marked c.in-Some.key) c.read_key.ensures.view) ∙ sym c.key_is_marked.ensures.mark ∙ c.if-key_is_marked.true in
    pair_within v.types v c.trace_target-fresh.new.seat at.body c.args.offset c.in-Some.key at.there
    (subst (λ p. holds v.marked p ≡ true) (sym at.place_is) c.requires.marked) at.among (c.in-Some.ensures.key at.body at.there at.place_is) key_marked
    (λ p marked. elim (c.trace_target-fresh.ensures.only at.body p (subst (λ bs. Contains bs at.body) (sym (ap (λ (x : SeatView). x.bodies) same)) at.there)
    at.place_is marked) [
      | inl old ↦ inl (subst (λ l. holds l p ≡ true) (ap (λ (x : SeatView). x.marked) same) old)
      | inr is ↦ inr is
    ])

pub returns-then-key_is_marked-clause-told : goal.returns-then-key_is_marked-clause-told
returns-then-key_is_marked-clause-told g c =
    let v = c.args.seat.now in
    let u = c.key_is_marked.new.seat in
    let w = c.trace_target-fresh.new.seat in
    let same : heap_and_marks u ≡ heap_and_marks v = c.key_is_marked.ensures.view ∙ c.read_key.ensures.view in
    let marks = c.trace_target-fresh.ensures.marks c.args.marking.now in
    let noted : w.noted ≡ v.noted =
    c.trace_target-fresh.ensures.noted ∙ c.key_is_marked.ensures.noted
    ∙ ap (λ b. c.read_key.new.seat.noted ++ noted_unless b c.args.holder c.args.offset) c.if-key_is_marked.true ∙ append-nil c.read_key.new.seat.noted
    ∙ c.read_key.ensures.noted in
    let key_marked : holds u.marked c.in-Some.key ≡ true =
    ap (λ (x : SeatView). holds x.marked c.in-Some.key) c.key_is_marked.ensures.view ∙ sym c.key_is_marked.ensures.mark ∙ c.if-key_is_marked.true in
    kept_traces v w c.args.notes.now c.args.notes.now c.args.holder c.args.offset c.in-Some.key
    (ap (λ (x : SeatView). x.bodies) marks.view ∙ ap (λ (x : SeatView). x.bodies) same) noted c.in-Some.ensures.key
    (marks.marked c.in-Some.key key_marked) c.trace_target-fresh.ensures.named
    (λ b q there at marked. elim (c.trace_target-fresh.ensures.only b q (subst (λ bs. Contains bs b) (sym (ap (λ (x : SeatView). x.bodies) same)) there) at marked) [
      | inl old ↦ inl (subst (λ l. holds l q ≡ true) (ap (λ (x : SeatView). x.marked) same) old)
      | inr is ↦ inr is
    ])

pub returns-else-key_is_marked-clause-notes : goal.returns-else-key_is_marked-clause-notes
returns-else-key_is_marked-clause-notes g c =
    (pair_asked c.args.seat.now c.args.notes.now c.note.new.self c.args.holder c.args.offset c.note.result c.requires.hand c.note.ensures.noted
    c.note.ensures.refused c.note.ensures.fits).grow

pub returns-else-key_is_marked-clause-pair : goal.returns-else-key_is_marked-clause-pair
returns-else-key_is_marked-clause-pair g c fine b k w there where_it_is pair key value =
    inr ((pair_asked c.args.seat.now c.args.notes.now c.note.new.self c.args.holder c.args.offset c.note.result c.requires.hand c.note.ensures.noted
    c.note.ensures.refused c.note.ensures.fits).there fine)

pub returns-else-key_is_marked-clause-told : goal.returns-else-key_is_marked-clause-told
returns-else-key_is_marked-clause-told g c =
    let v = c.args.seat.now in
    let u = c.key_is_marked.new.seat in
    waiting_traces v u c.args.notes.now c.note.new.self c.args.holder c.args.offset c.in-Some.key (c.key_is_marked.ensures.view ∙ c.read_key.ensures.view)
    (c.key_is_marked.ensures.noted
    ∙ ap (λ b. c.read_key.new.seat.noted ++ noted_unless b c.args.holder c.args.offset) c.if-key_is_marked.false
    ∙ ap (λ l. l ++ (c.args.holder, c.args.offset) ∷ []) c.read_key.ensures.noted) c.in-Some.ensures.key
    (ap (λ (x : SeatView). holds x.marked c.in-Some.key) (sym c.read_key.ensures.view) ∙ sym c.key_is_marked.ensures.mark ∙ c.if-key_is_marked.false)
    (pair_asked v c.args.notes.now c.note.new.self c.args.holder c.args.offset c.note.result c.requires.hand c.note.ensures.noted c.note.ensures.refused
    c.note.ensures.fits).follow

pub returns-in-None-clause-told : goal.returns-in-None-clause-told
returns-in-None-clause-told g c =
    null_traces c.args.seat.now c.read_key.new.seat c.args.notes.now c.args.notes.now c.args.holder c.args.offset c.read_key.ensures.view
    c.read_key.ensures.noted c.in-None.ensures.key

pub returns-then-key_is_marked-clause-looked : goal.returns-then-key_is_marked-clause-looked
returns-then-key_is_marked-clause-looked g c =
    let v = c.args.seat.now in
    let w = c.trace_target-fresh.new.seat in
    let at = c.requires.hand in
    let marks = returns-then-key_is_marked-clause-marks g c in
    key_looked v.types v w at.body c.args.offset c.in-Some.key
    (subst (λ bs. Contains bs at.body) (sym (same_bodies v w c.args.marking.now c.list_held.new.marking marks)) at.there)
    (subst (λ p. holds w.marked p ≡ true) (sym at.place_is) (marks.marked c.args.holder c.requires.marked)) at.among
    (c.in-Some.ensures.key at.body at.there at.place_is)
    (c.trace_target-fresh.ensures.looked ∙ c.key_is_marked.ensures.looked ∙ ap (λ l. l ++ c.in-Some.key ∷ []) c.read_key.ensures.looked)

pub returns-else-key_is_marked-clause-looked : goal.returns-else-key_is_marked-clause-looked
returns-else-key_is_marked-clause-looked g c =
    let v = c.args.seat.now in
    let u = c.key_is_marked.new.seat in
    let at = c.requires.hand in
    let same : heap_and_marks u ≡ heap_and_marks v = c.key_is_marked.ensures.view ∙ c.read_key.ensures.view in
    key_looked v.types v u at.body c.args.offset c.in-Some.key
    (subst (λ bs. Contains bs at.body) (sym (ap (λ (x : SeatView). x.bodies) same)) at.there)
    (subst (λ l. holds l at.body.place ≡ true) (sym (ap (λ (x : SeatView). x.marked) same))
    (subst (λ p. holds v.marked p ≡ true) (sym at.place_is) c.requires.marked)) at.among (c.in-Some.ensures.key at.body at.there at.place_is)
    (c.key_is_marked.ensures.looked ∙ ap (λ l. l ++ c.in-Some.key ∷ []) c.read_key.ensures.looked)

pub returns-in-None-clause-looked : goal.returns-in-None-clause-looked
returns-in-None-clause-looked g c =
    looked_nowhere (IsLookedAt c.args.seat.now.types c.read_key.new.seat) c.args.seat.now c.read_key.new.seat c.read_key.ensures.looked
