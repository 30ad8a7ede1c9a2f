use Rattle.std.proofs.Common.{◌≡◌, ℕ, ◌<◌, get_or}
use Rattle.oilpan.specs.declared.sharing.Sharing.TheVariants.{Free, Released}
use Rattle.oilpan.proofs.sharing.has_released.Given as goal

abbrev pub invariant-loop-i : goal.invariant-loop-i
invariant-loop-i l = (k : ℕ) → k < l.i → get_or l.shared k Free ≡ Released → ⊥
