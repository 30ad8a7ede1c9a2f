use Rattle.std.proofs.Common.{[], ◌∷◌}
use Rattle.marking_trials.proofs.tracing.trace_first.Given as goal

abbrev pub ghost-set_stop : goal.ghost-set_stop
ghost-set_stop a = 0 ∷ 256 ∷ []
