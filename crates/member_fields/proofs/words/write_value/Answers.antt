use Rattle.std.proofs.Common.{◌+◌, sym, subst}
use Rattle.marker_core.specs.Bodies.{IsReference}
use Rattle.page_words.specs.Seat.{SeatView}
use Rattle.member_fields.proofs.Fields.{value_allowed}
use Rattle.member_fields.proofs.PairStores.{has_value}
use Rattle.member_fields.proofs.PairWords.{stored_reference}
use Rattle.member_fields.proofs.words.write_value.Goals as goal

pub store-requires-clause-allowed : goal.store-requires-clause-allowed
store-requires-clause-allowed g c =
    value_allowed c.fields_stand_apart.ensures c.args.seat.now c.args.holder c.args.word c.args.value c.requires.ready c.requires.pair c.requires.holder
    c.requires.value c.requires.kept

pub returns-clause-named : goal.returns-clause-named
returns-clause-named g c =
    subst (λ (v : SeatView). IsReference v.bodies c.args.value) (sym c.store.ensures.view)
    (stored_reference c.args.seat.now c.args.holder (c.args.word + 1) c.args.value c.args.value c.bodies_lie_apart.ensures
    (has_value c.fields_stand_apart.ensures c.args.seat.now c.args.holder c.args.word c.requires.pair) c.requires.value)
