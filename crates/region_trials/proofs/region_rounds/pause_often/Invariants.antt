use Rattle.region_trials.specs.FreePasses.{IsFree}
use Rattle.region_trials.proofs.region_rounds.pause_often.Given as goal

abbrev pub invariant-loop : goal.invariant-loop
invariant-loop g l = IsFree l.fn.region.lock 0 l.pass
