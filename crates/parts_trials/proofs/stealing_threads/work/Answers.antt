use Rattle.mark_worklist.specs.Kept.{same-share, share-then}
use Rattle.parts_trials.proofs.stealing_threads.work.Goals as goal

pub loop-turn-init : goal.loop-turn-init
loop-turn-init c = same-share _

pub loop-turn-preserved : goal.loop-turn-preserved
loop-turn-preserved c = share-then _ _ _ c.loop-turn.invariant (share-then _ _ _ c.push.ensures.same c.take.ensures)
