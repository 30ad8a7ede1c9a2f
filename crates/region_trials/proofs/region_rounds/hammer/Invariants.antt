use Rattle.region_trials.specs.FreePasses.{IsFree}
use Rattle.region_trials.proofs.region_rounds.hammer.Given as goal

abbrev pub invariant-loop-set : goal.invariant-loop-set
invariant-loop-set g l = IsFree l.fn.region.lock l.fn.number l.pass
