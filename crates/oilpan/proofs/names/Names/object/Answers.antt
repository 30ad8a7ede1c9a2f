use Rattle.std.proofs.Common.{sym, ◌∙◌, ap, rules, subst}
use Rattle.std.specs.Cmp.Lexicographic.{same_text, other_text}
use Rattle.oilpan.specs.Named.{IsFirstNamed, object_names}
use Rattle.oilpan.proofs.Naming.{first_found, one_further}
use Rattle.oilpan.proofs.names.Names.object.Goals as goal

pub returns-then-eq : goal.returns-then-eq
returns-then-eq c =
    subst (λ xs. IsFirstNamed (object_names xs) c.args.name.now c.loop-number.number) (c.deref-object-items.ensures.value ∙ c.self.view_is)
    (first_found (λ o. o.name) c.deref-object-items.result.now c.args.name.now c.loop-number.number c.object-item.result search rules
    (ap (λ o. o.name) (sym c.object-item.is) ∙ sym c.name.ensures ∙ same_text c.name.result.now c.args.name.now c.if-eq.ensures) c.loop-number.invariant)

pub loop-number-preserved : goal.loop-number-preserved
loop-number-preserved c =
    one_further (λ o. o.name) c.deref-object-items.result.now c.args.name.now c.loop-number.number c.object-item.result search rules
    (λ e. other_text c.name.result.now c.args.name.now c.if-eq.ensures (c.name.ensures ∙ ap (λ o. o.name) c.object-item.is ∙ e)) c.loop-number.invariant
