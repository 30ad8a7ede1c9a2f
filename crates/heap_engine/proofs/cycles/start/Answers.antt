use Rattle.std.proofs.Common.{refl, sym, ◌∙◌}
use Rattle.std.proofs.lemmas.Bool.{true≢false}
use Rattle.gc_graph.specs.declared.command.Command.TheVariants as C
use Rattle.heap_engine.proofs.CommandsDone.{taking_done}
use Rattle.heap_engine.proofs.cycles.start.Goals as goal

pub returns : goal.returns
returns d c = record {
  done = taking_done C.GcStart c.args.parts.now c.start-line.new.parts c.args.outcome.now c.start-line.new.outcome c.end.new.self
      c.start-line.result _ c.end.ensures refl refl (λ n is. cc) c.requires.asked
      c.start-line.ensures.region c.start-line.ensures.grown c.start-line.ensures.step c.start-line.ensures.frame
      (λ runs. absurd (true≢false (sym runs ∙ c.start-line.ensures.calm))) c.start-line.ensures.room (λ is told. c.start-line.ensures.marked told);
}
