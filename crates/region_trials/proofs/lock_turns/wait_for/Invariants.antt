use Rattle.region_trials.specs.FreePasses.{IsFree}
use Rattle.region_trials.proofs.lock_turns.wait_for.Given as goal

abbrev pub invariant-loop : goal.invariant-loop
invariant-loop g l =
    (goal.iterator-loop g).can_next l.iterator' × (goal.iterator-loop g).is_finite l.iterator'
    × IsFree l.fn.lock l.fn.number l.pass
