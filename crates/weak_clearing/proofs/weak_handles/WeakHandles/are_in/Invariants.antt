use Rattle.std.proofs.Common.{◌≡◌, ℕ, ◌<◌, []}
use Rattle.type_table.specs.Types.{declared_kinds, offsets_of_kind}
use Rattle.weak_clearing.specs.Steps.{kind_of_handles}
use Rattle.weak_clearing.proofs.weak_handles.WeakHandles.are_in.Given as goal

abbrev pub invariant-loop-ty : goal.invariant-loop-ty
invariant-loop-ty l = (t : ℕ) → t < l.ty → offsets_of_kind (kind_of_handles l.self) (declared_kinds l.types t) ≡ []
