use Rattle.std.proofs.Common.{◌≡◌, ap, ◌∙◌, arith}
use Rattle.gc_graph.specs.Fields.{field_words}
use Rattle.type_table.specs.Layouts.{LayoutState}
use Rattle.type_table.specs.Types.{declared_kinds}
use Rattle.type_table.proofs.Offsets.{words_few}
use Rattle.type_table.proofs.table.TypeTable.size_of.Goals as goal

pub overflow_add-result : goal.overflow_add-result
overflow_add-result c =
    let kinds = declared_kinds c.args.self.now c.args.ty in
    let words : c.words.result ≡ field_words kinds = c.words.ensures ∙ ap (λ (l : LayoutState). l.words) c.layout.ensures.value in
    omega (arith, words, words_few kinds, c.layout.ensures.narrow)

pub overflow_add-result-2 : goal.overflow_add-result-2
overflow_add-result-2 c =
    let kinds = declared_kinds c.args.self.now c.args.ty in
    let words : c.words.result ≡ field_words kinds = c.words.ensures ∙ ap (λ (l : LayoutState). l.words) c.layout.ensures.value in
    omega (arith, words, words_few kinds, c.layout.ensures.narrow)

pub returns-clause-most : goal.returns-clause-most
returns-clause-most c =
    let kinds = declared_kinds c.args.self.now c.args.ty in
    let words : c.words.result ≡ field_words kinds = c.words.ensures ∙ ap (λ (l : LayoutState). l.words) c.layout.ensures.value in
    omega (arith, words, words_few kinds, c.layout.ensures.narrow)
