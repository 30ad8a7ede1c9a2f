use Rattle.std.proofs.Common.{◌≡◌, take}
use Rattle.type_table.specs.Layouts.{layouts_of}
use Rattle.type_table.proofs.table.layouts_of.Given as goal

abbrev pub invariant-loop-decl : goal.invariant-loop-decl
invariant-loop-decl l = l.found.items ≡ layouts_of (take l.decl-index l.types)
