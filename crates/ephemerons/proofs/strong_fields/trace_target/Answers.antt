use Rattle.std.proofs.Common.{◌≡◌, ◌+◌, true, sym, ap, ◌∙◌, subst, inl, inr}
use Rattle.std.specs.List.{Contains}
use Rattle.marker_core.specs.Bodies.{holds}
use Rattle.page_words.specs.Seat.{SeatView}
use Rattle.pair_notes.specs.Marking.{heap_and_marks}
use Rattle.ephemerons.specs.Fixpoint.{with_held}
use Rattle.ephemerons.specs.ListedMarks.{ListsMarks-then}
use Rattle.pair_notes.specs.FieldWords.{read_word, word_is_no_place}
use Rattle.ephemerons.proofs.HandLoads.{read_marks, read_beside, read_lists, target_may, target_moves, target_notes_none}
use Rattle.ephemerons.proofs.Holding.{no_marking}
use Rattle.ephemerons.proofs.MarkSteps.{same_bodies}
use Rattle.ephemerons.proofs.strong_fields.trace_target.Goals as goal

pub mark_named-requires-clause-may : goal.mark_named-requires-clause-may
mark_named-requires-clause-may g c t names =
    target_may c.args.seat.now c.load-reference.new.seat (c.args.holder + c.args.offset) c.load-reference.result t c.bodies_lie_apart-2.ensures
    c.requires.tracing.on c.requires.hand c.load-reference.ensures.view names

pub returns-clause-marks : goal.returns-clause-marks
returns-clause-marks g c m =
    ListsMarks-then c.args.seat.now c.load-reference.new.seat c.mark_named.new.seat m m (with_held c.mark_named.result m)
    (read_lists c.args.seat.now c.load-reference.new.seat (c.args.holder + c.args.offset) c.load-reference.result c.load-reference.ensures.view
    c.requires.hand.hand c.requires.hand.is m) (c.mark_named.ensures.marks m)

pub returns-clause-named : goal.returns-clause-named
returns-clause-named g c b q there at names =
    let before : Contains c.args.seat.now.bodies b =
    subst (λ bs. Contains bs b)
    (same_bodies c.args.seat.now c.mark_named.new.seat no_marking (with_held c.mark_named.result no_marking) (returns-clause-marks g c no_marking)) there in
    c.mark_named.ensures.target q
    (read_word c.args.seat.now c.args.holder c.args.offset c.load-reference.result c.bodies_lie_apart.ensures c.requires.field
    c.load-reference.ensures.word b before at ∙ names)

pub returns-clause-only : goal.returns-clause-only
returns-clause-only g c b p there at marked =
    let same : heap_and_marks c.load-reference.new.seat ≡ heap_and_marks c.args.seat.now =
    read_marks c.args.seat.now c.load-reference.new.seat (c.args.holder + c.args.offset) c.load-reference.result c.load-reference.ensures.view in
    elim (c.mark_named.ensures.only p marked) [
      | inl old ↦ inl (subst (λ l. holds l p ≡ true) (ap (λ (v : SeatView). v.marked) same) old)
      | inr is ↦ inr (sym (read_word c.args.seat.now c.args.holder c.args.offset c.load-reference.result c.bodies_lie_apart.ensures c.requires.field
          c.load-reference.ensures.word b there at) ∙ is)
    ]

pub returns-clause-hand : goal.returns-clause-hand
returns-clause-hand g c =
    target_moves c.args.seat.now c.load-reference.new.seat c.mark_named.new.seat (c.args.holder + c.args.offset) c.load-reference.result c.requires.hand
    c.load-reference.ensures.view c.mark_named.ensures.null c.mark_named.ensures.hand

pub returns-clause-noted : goal.returns-clause-noted
returns-clause-noted g c =
    c.mark_named.ensures.noted
    ∙ target_notes_none c.args.seat.now c.load-reference.new.seat (c.args.holder + c.args.offset) c.load-reference.result c.requires.hand
    c.load-reference.ensures.view

pub returns-clause-looked : goal.returns-clause-looked
returns-clause-looked g c =
    c.mark_named.ensures.looked
    ∙ read_beside c.args.seat.now c.load-reference.new.seat (c.args.holder + c.args.offset) c.load-reference.result c.load-reference.ensures.view
    (word_is_no_place c.args.seat.now c.args.holder c.args.offset c.bodies_lie_apart.ensures c.requires.field)
