use Rattle.std.proofs.Common.{refl}
use Rattle.gc_graph.specs.declared.command.Command.TheVariants as C
use Rattle.heap_engine.proofs.CommandsDone.{lines_done}
use Rattle.heap_engine.proofs.creating.new_object.Goals as goal

pub returns : goal.returns
returns c = record {
  done = lines_done (C.New c.args.p c.args.t c.args.extra) c.args.parts.now c.make-line.new.parts c.make-line.new.outcome c.end.new.self c.make-line.result c.end.ensures
      c.args.outcome.now c.make-line.ensures.calm c.make-line.ensures.room (refl, c.make-line.ensures.step) c.make-line.ensures.frame c.make-line.ensures.region refl (λ n is. cc);
}
