use Rattle.std.proofs.Common.{refl}
use Rattle.gc_graph.specs.declared.command.Command.TheVariants as C
use Rattle.heap_engine.proofs.CommandsDone.{lines_done}
use Rattle.heap_engine.proofs.cycles.sweep_all.Goals as goal

pub returns : goal.returns
returns c = record {
  done = lines_done C.SweepAll c.args.parts.now c.sweep_all-line.new.parts c.sweep_all-line.new.outcome c.end.new.self c.sweep_all-line.result c.end.ensures c.args.outcome.now c.sweep_all-line.ensures.calm c.sweep_all-line.ensures.room
      (refl, c.sweep_all-line.ensures.step) c.sweep_all-line.ensures.frame c.sweep_all-line.ensures.region refl (λ n is. cc);
}
