use Rattle.std.proofs.Common.{◌≡◌, ℕ, ◌<◌, false, get_or}
use Rattle.gc_graph.specs.State.{no_type}
use Rattle.type_table.specs.Faults.{names_none}
use Rattle.type_table.proofs.faults.unknown_of.Given as goal

abbrev pub invariant-loop-ty : goal.invariant-loop-ty
invariant-loop-ty l = (k : ℕ) → k < l.ty → names_none l.callbacks (get_or l.types k no_type) ≡ false
