use Rattle.std.proofs.Common.{ℕ, set, option_map}
use Rattle.heap_roots.proofs.slot_lists.with_target.Given as goal

abbrev pub ghost-chosen : goal.ghost-chosen
ghost-chosen a = set a.about.now.slots.now.value a.about.now.p (option_map (λ (t : ℕ × ℕ). t.1) a.about.now.target)
