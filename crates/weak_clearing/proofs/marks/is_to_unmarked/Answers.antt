use Rattle.std.proofs.Common.{ap, not, sym, ◌∙◌}
use Rattle.std.proofs.lemmas.Bool.{eq-eqb}
use Rattle.weak_clearing.proofs.Words.{names_none, names_one}
use Rattle.weak_clearing.proofs.marks.is_to_unmarked.Goals as goal

pub returns-else-reference-ne0-clause-names : goal.returns-else-reference-ne0-clause-names
returns-else-reference-ne0-clause-names c =
    ap not (eq-eqb c.args.reference 0 c.if-reference-ne0.false) ∙ sym (names_none c.args.seat.now.marked c.args.reference c.if-reference-ne0.false)

pub returns-then-reference-ne0-clause-names : goal.returns-then-reference-ne0-clause-names
returns-then-reference-ne0-clause-names c = ap not c.is_marked.ensures.mark ∙ sym (names_one c.args.seat.now.marked c.args.reference c.if-reference-ne0.true)
