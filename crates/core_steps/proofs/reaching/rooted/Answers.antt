use Rattle.std.proofs.Common.{filter}
use Rattle.marker_core.specs.Bodies.{holds, is_place}
use Rattle.core_steps.proofs.MapLoop.{pushed_range}
use Rattle.core_steps.proofs.reaching.rooted.Goals as goal

pub loop-n-preserved : goal.loop-n-preserved
loop-n-preserved c =
    pushed_range (holds (filter (is_place c.args.bodies.now) c.args.roots.now)) c.loop-n.set.items c.push.new.self.items c.loop-n.n
    c.is_root.result c.loop-n.invariant c.in_ok-push.ensures.items c.is_root.ensures
