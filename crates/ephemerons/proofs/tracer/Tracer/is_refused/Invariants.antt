use Rattle.std.proofs.Common.{◌≡◌, ℕ, ◌<◌, false}
use Rattle.pair_notes.specs.Notes.{group_at}
use Rattle.ephemerons.proofs.tracer.Tracer.is_refused.Given as goal

abbrev pub invariant-loop-group : goal.invariant-loop-group
invariant-loop-group g l = (i : ℕ) → i < l.group-index → (group_at l.groups i).overflow ≡ false
