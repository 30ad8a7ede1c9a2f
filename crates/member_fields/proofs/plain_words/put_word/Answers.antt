use Rattle.std.proofs.Common.{sym, ◌∙◌, true≢false}
use Rattle.gc_graph.specs.Fields.{is_plain}
use Rattle.member_fields.proofs.Stored.{lone_written}
use Rattle.member_fields.proofs.plain_words.put_word.Goals as goal

pub returns-clause-word : goal.returns-clause-word
returns-clause-word g c =
    c.write.ensures.view
    ∙ lone_written c.args.seat.now is_plain c.args.holder c.args.word c.args.n c.bodies_lie_apart.ensures (λ is. true≢false (sym is))
    (λ is. true≢false (sym is)) c.requires.field

pub returns-clause-address : goal.returns-clause-address
returns-clause-address g c = returns-clause-word g c ∙ c.write.ensures.address
