use Rattle.std.proofs.Common.{◌+◌, sym, subst}
use Rattle.gc_graph.specs.declared.kind.Kind.TheVariants.{Pair}
use Rattle.type_table.specs.Types.{is_kind}
use Rattle.page_words.specs.Seat.{SeatView}
use Rattle.member_fields.specs.Words.{HasWordOfSomeKind}
use Rattle.member_fields.proofs.PairWords.{key_word, value_word, kinds_of_pairs, next_fits}
use Rattle.member_fields.proofs.pairs.read_pair.Goals as goal

pub read-key-requires-clause-field : goal.read-key-requires-clause-field
read-key-requires-clause-field g c =
    (is_kind Pair, key_word c.args.seat.now c.args.holder c.args.word (kinds_of_pairs c.fields_stand_apart.ensures c.args.seat.now) c.requires.pair)

pub overflow_add-word : goal.overflow_add-word
overflow_add-word g c = next_fits c.args.seat.now c.args.holder c.args.word c.bodies_lie_apart.ensures c.requires.pair

pub read-value-requires-clause-field : goal.read-value-requires-clause-field
read-value-requires-clause-field g c =
    subst (λ (v : SeatView). HasWordOfSomeKind v c.args.holder (c.args.word + 1)) (sym c.read-key.ensures.view)
    (is_kind Pair, value_word c.args.seat.now c.args.holder c.args.word (kinds_of_pairs c.fields_stand_apart.ensures c.args.seat.now) c.requires.pair)
