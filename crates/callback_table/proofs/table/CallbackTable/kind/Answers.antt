use Rattle.std.proofs.Common.{◌∙◌}
use Rattle.callback_table.proofs.Answering.{kind_at}
use Rattle.callback_table.proofs.table.CallbackTable.kind.Goals as goal

pub returns : goal.returns
returns g c = c.kind.ensures ∙ kind_at (λ callback. callback.kind) c.args.self.now.list.items c.args.i c.index.result.now c.requires c.index.ensures
