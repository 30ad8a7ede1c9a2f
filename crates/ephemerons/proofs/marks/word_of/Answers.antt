use Rattle.std.proofs.Common.{refl}
use Rattle.pair_notes.specs.FieldWords.{read_word, word_is_no_place}
use Rattle.ephemerons.proofs.marks.word_of.Goals as goal

pub returns-clause-word : goal.returns-clause-word
returns-clause-word g c =
    read_word c.args.seat.now c.args.holder c.args.offset c.load.result c.bodies_lie_apart.ensures c.requires.field c.load.ensures.word

pub returns-clause-view : goal.returns-clause-view
returns-clause-view g c =
    c.load.ensures.beside refl (word_is_no_place c.args.seat.now c.args.holder c.args.offset c.bodies_lie_apart.ensures c.requires.field)
