use Rattle.std.proofs.Common.{refl}
use Rattle.gc_graph.specs.declared.command.Command.TheVariants as C
use Rattle.heap_engine.proofs.CommandsDone.{lines_done}
use Rattle.heap_engine.proofs.cycles.sweep_some.Goals as goal

pub returns : goal.returns
returns c = record {
  done = lines_done (C.Sweep c.args.n) c.args.parts.now c.sweep_some-line.new.parts c.sweep_some-line.new.outcome c.end.new.self c.sweep_some-line.result c.end.ensures c.args.outcome.now c.sweep_some-line.ensures.calm c.sweep_some-line.ensures.room
      (refl, c.sweep_some-line.ensures.step) c.sweep_some-line.ensures.frame c.sweep_some-line.ensures.region refl (λ n is. cc);
}
