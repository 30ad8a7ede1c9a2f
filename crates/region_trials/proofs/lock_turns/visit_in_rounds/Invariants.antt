use Rattle.region_trials.specs.FreePasses.{IsFree}
use Rattle.region_trials.proofs.lock_turns.visit_in_rounds.Given as goal

abbrev pub invariant-loop : goal.invariant-loop
invariant-loop g l = IsFree l.fn.lock l.fn.number l.pass
