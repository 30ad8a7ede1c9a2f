use Rattle.std.proofs.Common.{◌++◌, ◌∙◌, sym, ap, arith}
use Rattle.ephemerons.specs.Traces.{noted_unless}
use Rattle.page_words.specs.BodyPlaces.{place_below}
use Rattle.ephemerons.proofs.HandKeys.{key_place, key_marked, key_noted}
use Rattle.ephemerons.proofs.HandLoads.{read_header}
use Rattle.ephemerons.proofs.pair_fields.key_is_marked.Goals as goal

pub load-requires-clause-address : goal.load-requires-clause-address
load-requires-clause-address g c =
    let v = c.args.seat.now in
    omega (
      arith,
      place_below v c.args.key c.bodies_lie_apart.ensures
          (key_place v c.args.holder c.args.offset c.args.key c.bodies_lie_apart.ensures c.requires.tracing.on c.requires.hand),
    )

pub returns-clause-mark : goal.returns-clause-mark
returns-clause-mark g c =
    let v = c.args.seat.now in
    let at = key_place v c.args.holder c.args.offset c.args.key c.bodies_lie_apart.ensures c.requires.tracing.on c.requires.hand in
    c.has_mark.ensures ∙ (c.load.ensures.word.header at.0 at.1 at.2).mark.alone c.requires.tracing.none_lent

pub returns-clause-hand : goal.returns-clause-hand
returns-clause-hand g c told =
    key_marked c.args.seat.now c.load.new.seat c.args.holder c.args.offset c.args.key c.load.result c.requires.hand c.load.ensures.view
    (sym c.has_mark.ensures ∙ told)

pub returns-clause-noted : goal.returns-clause-noted
returns-clause-noted g c =
    key_noted c.args.seat.now c.load.new.seat c.args.holder c.args.offset c.args.key c.load.result c.requires.hand c.load.ensures.view
    ∙ ap (λ b. c.args.seat.now.noted ++ noted_unless b c.args.holder c.args.offset) (sym c.has_mark.ensures)

pub returns-clause-looked : goal.returns-clause-looked
returns-clause-looked g c =
    let v = c.args.seat.now in
    read_header v c.load.new.seat c.args.key c.load.result c.load.ensures.view
    (key_place v c.args.holder c.args.offset c.args.key c.bodies_lie_apart.ensures c.requires.tracing.on c.requires.hand)
