use Rattle.std.proofs.Common.{◌∙◌}
use Rattle.gc_graph.specs.declared.kind.Kind.TheVariants.{Pair}
use Rattle.type_table.specs.Types.{is_kind}
use Rattle.member_fields.proofs.Fields.{key_allowed}
use Rattle.member_fields.proofs.PairWords.{key_word, kinds_of_pairs}
use Rattle.member_fields.proofs.Stored.{key_written}
use Rattle.member_fields.proofs.words.write_key.Goals as goal

pub store-requires-clause-allowed : goal.store-requires-clause-allowed
store-requires-clause-allowed g c =
    key_allowed c.fields_stand_apart.ensures c.args.seat.now c.args.holder c.args.word c.args.key c.bodies_lie_apart.ensures c.requires.takes

pub returns : goal.returns
returns g c = record {
  word =
      c.store.ensures.view
      ∙ key_written c.fields_stand_apart.ensures c.args.seat.now c.args.holder c.args.word c.args.key c.bodies_lie_apart.ensures c.requires.takes.pair
      (is_kind Pair, key_word c.args.seat.now c.args.holder c.args.word (kinds_of_pairs c.fields_stand_apart.ensures c.args.seat.now) c.requires.takes.pair);
}
