use Rattle.region_trials.specs.FreePasses.{IsFree}
use Rattle.region_trials.proofs.region_rounds.wait_for.Given as goal

abbrev pub invariant-loop : goal.invariant-loop
invariant-loop g l = IsFree l.fn.region.lock l.fn.number l.pass
