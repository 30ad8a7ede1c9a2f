use Rattle.std.proofs.Common.{refl}
use Rattle.gc_graph.specs.declared.command.Command.TheVariants as C
use Rattle.heap_engine.proofs.CommandsDone.{taking_done}
use Rattle.heap_engine.proofs.cycles.finish.Goals as goal

pub returns : goal.returns
returns d c = record {
  done = taking_done (C.GcFinish c.args.want) c.args.parts.now c.finish-line.new.parts c.args.outcome.now c.finish-line.new.outcome c.end.new.self
      c.finish-line.result _ c.end.ensures refl refl (λ n is. cc) c.requires.asked
      c.finish-line.ensures.region c.finish-line.ensures.grown c.finish-line.ensures.step c.finish-line.ensures.frame c.finish-line.ensures.ran c.finish-line.ensures.room (λ is told. cc);
}
