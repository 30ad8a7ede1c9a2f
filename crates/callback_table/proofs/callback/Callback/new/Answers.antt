use Rattle.callback_table.proofs.callback.Callback.new.Goals as goal

pub invariant_of-result : goal.invariant_of-result
invariant_of-result g c = record { callable = c.requires.callable; answers = c.requires.answers }
