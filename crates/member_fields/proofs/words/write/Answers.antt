use Rattle.std.proofs.Common.{sym}
use Rattle.member_fields.proofs.Fields.{lone_allowed}
use Rattle.member_fields.proofs.Writes.{rewritten_word}
use Rattle.member_fields.proofs.words.write.Goals as goal

pub store-requires-clause-allowed : goal.store-requires-clause-allowed
store-requires-clause-allowed g c =
    lone_allowed c.args.seat.now c.args.holder c.args.word c.args.w c.bodies_lie_apart.ensures c.requires.ready c.requires.field c.requires.holder
    c.requires.word

pub returns-clause-address : goal.returns-clause-address
returns-clause-address g c =
    sym (rewritten_word c.args.seat.now c.args.holder c.args.word c.args.w c.bodies_lie_apart.ensures (c.requires.field.0, c.requires.field.2))
