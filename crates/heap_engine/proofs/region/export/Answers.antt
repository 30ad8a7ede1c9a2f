use Rattle.std.proofs.Common.{◌∷◌, [], refl, sym, ◌∙◌}
use Rattle.std.proofs.lemmas.Bool.{true≢false}
use Rattle.gc_graph.specs.declared.command.Command.TheVariants as C
use Rattle.heap_engine.proofs.CommandsDone.{taking_done}
use Rattle.heap_engine.proofs.OutcomeLines.{line_alone}
use Rattle.heap_engine.proofs.region.export.Goals as goal

pub returns : goal.returns
returns g c = record {
  done = taking_done (C.Export c.args.p c.args.x) c.args.parts.now c.export_node.new.parts c.args.outcome.now c.args.outcome.now c.end.new.self c.export_node.result (c.export_node.result ∷ [])
      c.end.ensures (line_alone c.args.outcome.now c.export_node.new.parts.cycle.ran c.export_node.result c.requires.asked.nothing.numbers c.requires.asked.nothing.calm)
      refl (λ n is. cc) c.requires.asked c.export_node.ensures.region c.export_node.ensures.grown c.export_node.ensures.step
      c.export_node.ensures.frame (λ runs. absurd (true≢false (sym runs ∙ c.requires.asked.nothing.calm))) refl (λ is told. cc);
}
