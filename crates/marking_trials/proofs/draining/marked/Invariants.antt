use Rattle.std.proofs.Common.{[], ◌∷◌}
use Rattle.marking_trials.proofs.draining.marked.Given as goal

abbrev pub ghost-set_stop : goal.ghost-set_stop
ghost-set_stop a = 0 ∷ 256 ∷ []
