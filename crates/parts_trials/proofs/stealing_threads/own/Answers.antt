use Rattle.mark_worklist.specs.Kept.{same-list}
use Rattle.parts_trials.proofs.stealing_threads.own.Goals as goal

pub loop-turn-init : goal.loop-turn-init
loop-turn-init c = same-list _
