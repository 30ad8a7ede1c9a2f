use Rattle.std.proofs.Common.{◌≡◌, ℕ, ◌<◌, []}
use Rattle.gc_graph.specs.declared.kind.Kind.TheVariants.{Pair}
use Rattle.type_table.specs.Types.{declared_kinds, offsets_of_kind}
use Rattle.ephemerons.proofs.draining.has_pairs.Given as goal

abbrev pub invariant-loop-ty : goal.invariant-loop-ty
invariant-loop-ty l = (t : ℕ) → t < l.ty → offsets_of_kind Pair (declared_kinds l.types t) ≡ []
