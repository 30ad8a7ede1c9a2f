use Rattle.std.proofs.Common.{refl}
use Rattle.member_fields.proofs.Offsets.{word_read, field_is_no_place}
use Rattle.member_fields.proofs.words.read.Goals as goal

pub returns-clause-word : goal.returns-clause-word
returns-clause-word g c =
    word_read c.args.seat.now c.args.holder c.args.word c.load.result c.bodies_lie_apart.ensures c.requires.field c.load.ensures.word

pub returns-clause-view : goal.returns-clause-view
returns-clause-view g c =
    c.load.ensures.beside refl (field_is_no_place c.args.seat.now c.args.holder c.args.word c.bodies_lie_apart.ensures c.requires.field)
