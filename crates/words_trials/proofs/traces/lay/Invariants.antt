use Rattle.words_trials.specs.Objects.{holder_at}
use Rattle.words_trials.proofs.traces.lay.Given as goal

abbrev pub ghost-publish : goal.ghost-publish
ghost-publish a = holder_at a.a
