use Rattle.mark_worklist.specs.Shares.{IsSameShare}
use Rattle.parts_trials.proofs.stealing_threads.work.Given as goal

abbrev pub invariant-loop-turn : goal.invariant-loop-turn
invariant-loop-turn l = IsSameShare l.initial.share l.share
