use Rattle.std.proofs.Common.{◌≢◌, ℕ, ◌<◌, get_or, map, []}
use Rattle.oilpan.proofs.names.field_in.Given as goal

abbrev pub invariant-loop-number : goal.invariant-loop-number
invariant-loop-number l = (i : ℕ) → i < l.number → get_or (map (λ f. f.name) l.fields) i [] ≢ l.name
