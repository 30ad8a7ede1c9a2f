use Rattle.std.proofs.Common.{[]}
use Rattle.words_trials.proofs.aged.Aged.condemn.Given as goal

abbrev pub ghost-set_stop : goal.ghost-set_stop
ghost-set_stop a = []
