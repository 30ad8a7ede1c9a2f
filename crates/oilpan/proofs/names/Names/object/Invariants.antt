use Rattle.std.proofs.Common.{◌≢◌, ℕ, ◌<◌, get_or, []}
use Rattle.oilpan.specs.Named.{object_names}
use Rattle.oilpan.proofs.names.Names.object.Given as goal

abbrev pub invariant-loop-number : goal.invariant-loop-number
invariant-loop-number l = (i : ℕ) → i < l.number → get_or (object_names l.object-items) i [] ≢ l.name
