use Rattle.std.proofs.Common.{arith}
use Rattle.marker_core.specs.Bodies.{with_word}
use Rattle.core_steps.proofs.MapLoop.{mapped_more}
use Rattle.core_steps.proofs.bodies.write_field.Goals as goal

pub loop-b-preserved : goal.loop-b-preserved
loop-b-preserved c =
    mapped_more (with_word c.args.a c.args.w) c.deref_mut-b-items.result.now c.loop-b.b-items c.loop-b.b-index c.b-item.result
    c.write_word.new.b c.loop-b.invariant (omega (arith, c.loop-b-test.true)) c.write_word.ensures
