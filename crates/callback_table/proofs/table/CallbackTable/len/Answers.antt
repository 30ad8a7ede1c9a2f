use Rattle.std.proofs.Common.{◌∙◌, arith}
use Rattle.std.proofs.lemmas.List.{length-map}
use Rattle.callback_table.proofs.table.CallbackTable.len.Goals as goal

pub returns : goal.returns
returns g c = c.len.ensures ∙ omega (arith, length-map c.args.self.now.list.items (λ callback. callback.kind))
