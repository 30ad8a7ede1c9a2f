use Rattle.std.proofs.Common.{[], ◌∷◌}
use Rattle.words_trials.proofs.ends.begin.Given as goal

abbrev pub ghost-set_stop : goal.ghost-set_stop
ghost-set_stop a = 0 ∷ 253 ∷ []
