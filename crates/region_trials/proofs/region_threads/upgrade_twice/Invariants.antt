use Rattle.region_trials.specs.FreePasses.{IsFree}
use Rattle.region_trials.proofs.region_threads.upgrade_twice.Given as goal

abbrev pub invariant-loop : goal.invariant-loop
invariant-loop g l = IsFree l.fn.region.lock 1 l.pass
