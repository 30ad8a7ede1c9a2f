use Rattle.std.proofs.Common.{◌∷◌, [], refl, sym, ◌∙◌}
use Rattle.std.proofs.lemmas.Bool.{true≢false}
use Rattle.gc_graph.specs.declared.command.Command.TheVariants as C
use Rattle.heap_engine.proofs.CommandsDone.{taking_done}
use Rattle.heap_engine.proofs.OutcomeLines.{line_alone}
use Rattle.heap_engine.proofs.region.import.Goals as goal

pub returns : goal.returns
returns g c = record {
  done = taking_done (C.Import c.args.x c.args.p) c.args.parts.now c.import_node.new.parts c.args.outcome.now c.args.outcome.now c.end.new.self c.import_node.result (c.import_node.result ∷ [])
      c.end.ensures (line_alone c.args.outcome.now c.import_node.new.parts.cycle.ran c.import_node.result c.requires.asked.nothing.numbers c.requires.asked.nothing.calm)
      refl (λ n is. cc) c.requires.asked c.import_node.ensures.region c.import_node.ensures.grown c.import_node.ensures.step
      c.import_node.ensures.frame (λ runs. absurd (true≢false (sym runs ∙ c.requires.asked.nothing.calm))) refl (λ is told. cc);
}
