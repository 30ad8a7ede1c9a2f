use Rattle.std.proofs.Common.{◌∙◌, inl, inr, refl}
use Rattle.gc_graph.specs.declared.kind.Kind.TheVariants.{Strong}
use Rattle.type_table.specs.Types.{is_kind}
use Rattle.member_fields.proofs.Stored.{null_written}
use Rattle.member_fields.proofs.members.clear.Goals as goal

pub write-requires-clause-word : goal.write-requires-clause-word
write-requires-clause-word g c = inr (inl refl, λ on. inl refl)

pub returns-clause-word : goal.returns-clause-word
returns-clause-word g c =
    c.write.ensures.view
    ∙ null_written c.args.seat.now c.args.holder c.args.word c.bodies_lie_apart.ensures (is_kind Strong, c.requires.field)

pub returns-clause-address : goal.returns-clause-address
returns-clause-address g c = returns-clause-word g c ∙ c.write.ensures.address
