use Rattle.std.proofs.Common.{true, ◌<◌, sym, ◌∙◌}
use Rattle.marker_core.specs.declared.states.Body.{Body}
use Rattle.page_words.specs.BodyPlaces.{small_type}
use Rattle.marker_core.specs.Bodies.{holds}
use Rattle.page_words.specs.Seat.{SeatView}
use Rattle.page_words.specs.Looking.{looks_read}
use Rattle.weak_clearing.proofs.marks.marked_type.Goals as goal

pub returns-then-has_mark-clause-marked : goal.returns-then-has_mark-clause-marked
returns-then-has_mark-clause-marked c =
    let v : SeatView = c.args.seat.now in
    let b : Body = c.requires.place.0 in
    let small : b.ty < 16384 = small_type v c.bodies_lie_apart.ensures b c.requires.place.1 in
    let none_lent = (c.bodies_lie_apart.ensures.at_rest c.requires.off).none_lent in
    let told = c.load-word.ensures.word.header b c.requires.place.1 c.requires.place.2 in
    let word = c.load-word.ensures.word.alone none_lent b c.requires.place.1 c.requires.place.2 in (
      b,
      c.requires.place.1,
      c.requires.place.2,
      sym (c.type_in.ensures.header true (holds v.marked b.place) (holds v.traced b.place) b.ty b.size small word),
      sym (told.mark.alone none_lent) ∙ sym c.has_mark.ensures ∙ c.if-has_mark.true,
    )

pub returns-else-has_mark-clause-unmarked : goal.returns-else-has_mark-clause-unmarked
returns-else-has_mark-clause-unmarked c =
    let place = c.requires.place in
    sym ((c.load-word.ensures.word.header place.0 place.1 place.2).mark.alone (c.bodies_lie_apart.ensures.at_rest c.requires.off).none_lent)
    ∙ sym c.has_mark.ensures ∙ c.if-has_mark.false

pub returns-then-has_mark-clause-looked : goal.returns-then-has_mark-clause-looked
returns-then-has_mark-clause-looked c = looks_read c.args.seat.now c.load-word.new.seat c.args.place c.load-word.result c.load-word.ensures.view

pub returns-else-has_mark-clause-looked : goal.returns-else-has_mark-clause-looked
returns-else-has_mark-clause-looked c = looks_read c.args.seat.now c.load-word.new.seat c.args.place c.load-word.result c.load-word.ensures.view
