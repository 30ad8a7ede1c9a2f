use Rattle.std.proofs.Common.{◌≡◌, false, refl, sym, ◌∙◌}
use Rattle.heap_objects.specs.Fields.{allows}
use Rattle.heap_objects.proofs.field.wanted_field.Goals as goal

pub returns-else-allows : goal.returns-else-allows
returns-else-allows c =
    let no : allows c.args.wanted c.in-Some.kind ≡ false = sym c.allows.ensures ∙ c.if-allows.false in
    rw c.in-Some.is (rw no refl)
