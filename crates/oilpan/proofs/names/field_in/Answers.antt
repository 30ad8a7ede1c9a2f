use Rattle.std.proofs.Common.{sym, ◌∙◌, ap, rules}
use Rattle.std.specs.Cmp.Lexicographic.{same_text, other_text}
use Rattle.oilpan.proofs.Naming.{first_found, one_further}
use Rattle.oilpan.proofs.names.field_in.Goals as goal

pub returns-then-eq : goal.returns-then-eq
returns-then-eq c =
    first_found (λ f. f.name) c.args.fields.now c.args.name.now c.loop-number.number c.index-fields-number.result search rules
    (ap (λ f. f.name) (sym c.index-fields-number.is) ∙ sym c.name.ensures ∙ same_text c.name.result.now c.args.name.now c.if-eq.ensures) c.loop-number.invariant

pub loop-number-preserved : goal.loop-number-preserved
loop-number-preserved c =
    one_further (λ f. f.name) c.args.fields.now c.args.name.now c.loop-number.number c.index-fields-number.result search rules
    (λ e. other_text c.name.result.now c.args.name.now c.if-eq.ensures (c.name.ensures ∙ ap (λ f. f.name) c.index-fields-number.is ∙ e)) c.loop-number.invariant
