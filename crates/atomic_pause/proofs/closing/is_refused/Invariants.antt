use Rattle.std.proofs.Common.{◌≡◌, ℕ, ◌<◌, false}
use Rattle.ephemerons.specs.Notes.{group_at}
use Rattle.atomic_pause.proofs.closing.is_refused.Given as goal

abbrev pub invariant-loop-group : goal.invariant-loop-group
invariant-loop-group l = (i : ℕ) → i < l.group-index → (group_at l.notes i).overflow ≡ false
