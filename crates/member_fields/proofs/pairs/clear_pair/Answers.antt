use Rattle.std.proofs.Common.{sym, ap, ◌∙◌, subst}
use Rattle.page_words.specs.Seat.{SeatView}
use Rattle.member_fields.specs.Words.{written}
use Rattle.member_fields.specs.Keys.{TakesKey}
use Rattle.member_fields.proofs.PairStores.{value_nulled, takes_nothing}
use Rattle.member_fields.proofs.pairs.clear_pair.Goals as goal

pub write_key-requires-clause-takes : goal.write_key-requires-clause-takes
write_key-requires-clause-takes g c =
    subst (λ (s : SeatView). TakesKey s c.args.holder c.args.word 0)
    (sym (value_nulled c.fields_stand_apart.ensures c.args.seat.now c.args.holder c.args.word c.write_value.new.seat c.bodies_lie_apart.ensures
    c.requires.pair c.write_value.ensures.view))
    (takes_nothing c.fields_stand_apart.ensures c.args.seat.now c.args.holder c.args.word c.bodies_lie_apart.ensures c.requires.ready c.requires.pair
    c.requires.holder)

pub returns : goal.returns
returns g c = record {
  words =
      c.write_key.ensures.word
      ∙ ap (λ (s : SeatView). written s c.args.holder c.args.word 0)
      (value_nulled c.fields_stand_apart.ensures c.args.seat.now c.args.holder c.args.word c.write_value.new.seat c.bodies_lie_apart.ensures
      c.requires.pair c.write_value.ensures.view);
}
