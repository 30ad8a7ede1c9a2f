use Rattle.std.proofs.Common.{refl, ◌∙◌}
use Rattle.type_table.proofs.Unknown.{found_in_both}
use Rattle.type_table.proofs.faults.unknown_in.Goals as goal

pub returns-in-Some : goal.returns-in-Some
returns-in-Some c = found_in_both c.args.callbacks _ c.args.decl.now.weak_callbacks _ _ _ c.in-Some.ensures c.callbacks.ensures refl

pub returns-in-None : goal.returns-in-None
returns-in-None c =
    c.unknown_among-in-None.ensures ∙ found_in_both c.args.callbacks _ _ _ _ _ c.in-None.ensures c.callbacks.ensures c.weak.ensures
