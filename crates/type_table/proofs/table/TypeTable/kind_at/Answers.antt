use Rattle.std.proofs.Common.{get_or, ◌-◌, ap, ◌∙◌}
use Rattle.gc_graph.specs.declared.kind.Kind.TheVariants.{Plain}
use Rattle.type_table.specs.Layouts.{LayoutState}
use Rattle.type_table.specs.Types.{declared_kinds}
use Rattle.type_table.proofs.WordKinds.{kind_at}
use Rattle.type_table.proofs.table.TypeTable.kind_at.Goals as goal

pub returns : goal.returns
returns c field is =
    c.kind.ensures
    ∙ ap (λ (l : LayoutState). get_or l.kinds (c.args.word - 2) Plain) c.layout.ensures.value
    ∙ kind_at (declared_kinds c.args.self.now c.args.ty) field c.args.word is
