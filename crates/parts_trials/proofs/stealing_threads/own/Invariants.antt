use Rattle.mark_worklist.specs.Joining.{IsSameList}
use Rattle.parts_trials.proofs.stealing_threads.own.Given as goal

abbrev pub invariant-loop-turn : goal.invariant-loop-turn
invariant-loop-turn l = IsSameList l.initial.list l.list
