use Rattle.std.proofs.Common.{ℕ, Vec, Global, ◌++◌, ◌∷◌, [], get_or, length, sym, ap, ◌∙◌, arith}
use Rattle.gc_graph.specs.declared.kind.Kind.TheVariants.{Strong}
use Rattle.type_table.specs.Types.{is_kind}
use Rattle.type_table.proofs.Offsets.{offsets_below, offset_told, offset_skipped, offset_at, offsets_many}
use Rattle.type_table.proofs.layout.offsets_where.Goals as goal
use Rattle.type_table.proofs.layout.offsets_where.Goals.{then-is_kind+in_ok-push, else-is_kind}

pub bounds-offsets-field : goal.bounds-offsets-field
bounds-offsets-field c = omega (arith, ap length c.requires.offsets, offsets_many c.args.kinds.now)

pub loop-field-preserved : goal.loop-field-preserved
loop-field-preserved c =
    let kinds = c.args.kinds.now in
    let field = c.loop-field.field in
    let low = c.loop-field-test.true in
    elim c.if-is_kind.branch [
      | then-is_kind+in_ok-push w ↦ ap (λ (v : Vec ℕ Global). v.items) w.found-is ∙ w.in_ok-push.ensures.items
          ∙ ap (λ ys. ys ++ get_or c.args.offsets.now field 0 ∷ []) c.loop-field.invariant
          ∙ ap (λ n. offsets_below (is_kind c.args.wanted) kinds field ++ n ∷ []) (offset_at kinds c.args.offsets.now field low c.requires.offsets)
          ∙ sym (offset_told (is_kind c.args.wanted) kinds field Strong low (sym w.if-is_kind.ensures))
      | else-is_kind w ↦ ap (λ (v : Vec ℕ Global). v.items) w.found-is ∙ c.loop-field.invariant
          ∙ sym (offset_skipped (is_kind c.args.wanted) kinds field Strong low (sym w.if-is_kind.ensures))
    ]
