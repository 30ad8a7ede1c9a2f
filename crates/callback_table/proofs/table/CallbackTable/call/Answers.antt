use Rattle.std.proofs.Common.{◌∙◌, ap}
use Rattle.gc_graph.specs.Actions.{action_of}
use Rattle.callback_table.proofs.Answering.{kind_at}
use Rattle.callback_table.proofs.table.CallbackTable.call.Goals as goal

pub returns : goal.returns
returns g c =
    c.call.ensures
    ∙ ap (λ kind. action_of kind c.args.words.now)
    (kind_at (λ callback. callback.kind) c.args.self.now.list.items c.args.i c.index.result.now c.requires.number c.index.ensures)
