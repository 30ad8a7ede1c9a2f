use Rattle.std.proofs.Common.{[], ◌∷◌}
use Rattle.words_trials.specs.Objects.{object}
use Rattle.words_trials.proofs.claims.marked.Given as goal

abbrev pub ghost-publish : goal.ghost-publish
ghost-publish a = object

abbrev pub ghost-set_stop : goal.ghost-set_stop
ghost-set_stop a = 0 ∷ []
