use Rattle.std.proofs.Common.{◌≡◌, ◌<◌, List, length, get_or, ap, ◌∙◌, arith}
use Rattle.gc_graph.specs.declared.kind.Kind.{Kind}
use Rattle.gc_graph.specs.declared.kind.Kind.TheVariants.{Strong, Plain}
use Rattle.gc_graph.specs.State.{ObjectType}
use Rattle.std.proofs.lemmas.List.{get_or_default}
use Rattle.type_table.specs.Layouts.{LayoutState}
use Rattle.type_table.specs.Types.{declared_kinds}
use Rattle.type_table.proofs.Offsets.{words_few, offset_at, offsets_many}
use Rattle.type_table.proofs.table.TypeTable.field_at.Goals as goal

pub offset-requires : goal.offset-requires
offset-requires c =
    let kinds : List Kind = declared_kinds c.args.self.now c.args.ty in
    let same : c.fields-kinds.result.now ≡ kinds = c.fields-kinds.ensures ∙ ap (λ (t : ObjectType). t.kinds) c.decl.ensures.value in
    omega (arith, ap length same, ap (λ (l : LayoutState). length l.offsets) c.layout.ensures.value, offsets_many kinds)

pub returns-then-field-count : goal.returns-then-field-count
returns-then-field-count c =
    let kinds : List Kind = declared_kinds c.args.self.now c.args.ty in
    let same : c.fields-kinds.result.now ≡ kinds = c.fields-kinds.ensures ∙ ap (λ (t : ObjectType). t.kinds) c.decl.ensures.value in
    let low : c.args.field < length kinds = omega (arith, ap length same) in
    record {
      there = omega arith;
      kind = ap (λ (ks : List Kind). get_or ks c.args.field Strong) same ∙ get_or_default kinds c.args.field Strong Plain low;
      offset = c.offset.ensures ∙ offset_at kinds c.layout.result.now.offsets c.args.field low (ap (λ (l : LayoutState). l.offsets) c.layout.ensures.value);
    }

pub overflow_add-result : goal.overflow_add-result
overflow_add-result c =
    let kinds : List Kind = declared_kinds c.args.self.now c.args.ty in
    omega (arith, words_few kinds, c.decl.ensures.narrow, c.size_of.ensures)
