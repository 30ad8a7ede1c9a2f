use Rattle.std.proofs.Common.{[], ◌∷◌, ◌∙◌, sym, ap}
use Rattle.gc_graph.specs.Pause.{prefinalised}
use Rattle.callback_table.specs.Registry.{registration_of}
use Rattle.callback_table.specs.Table.{callback_kinds}
use Rattle.callback_table.proofs.Answering.{when_true}
use Rattle.callback_table.proofs.Masking.{prefinalised_is_called}
use Rattle.callback_table.proofs.running.run_if_dead.Goals as goal

pub returns-then-dead-clause-answer : goal.returns-then-dead-clause-answer
returns-then-dead-clause-answer g c = c.dead-dead.ensures.answer c.args.entry.node c.requires.registered.stands

pub returns-then-dead-clause-nodes : goal.returns-then-dead-clause-nodes
returns-then-dead-clause-nodes g c =
    when_true _ _ _ _ c.if-dead.true
    (c.run.ensures.nodes ∙ sym (prefinalised_is_called (callback_kinds c.args.table.now) (registration_of c.args.entry ∷ []) _)
    ∙ ap (prefinalised (callback_kinds c.args.table.now) (registration_of c.args.entry ∷ [])) c.dead-dead.ensures.nodes)
