use Rattle.std.proofs.Common.{refl}
use Rattle.gc_graph.specs.declared.command.Command.TheVariants as C
use Rattle.heap_engine.proofs.CommandsDone.{taking_done}
use Rattle.heap_engine.proofs.cycles.collect.Goals as goal

pub returns : goal.returns
returns d c = record {
  done = taking_done (C.GcNow c.args.want) c.args.parts.now c.collect-line.new.parts c.args.outcome.now c.collect-line.new.outcome c.end.new.self
      c.collect-line.result _ c.end.ensures refl refl (λ n is. cc) c.requires.asked
      c.collect-line.ensures.region c.collect-line.ensures.grown c.collect-line.ensures.step c.collect-line.ensures.frame c.collect-line.ensures.ran c.collect-line.ensures.room (λ is told. cc);
}
