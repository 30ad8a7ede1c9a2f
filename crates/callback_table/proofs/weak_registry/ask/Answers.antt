use Rattle.std.proofs.Common.{Some, None, [], ◌∷◌, refl}
use Rattle.callback_table.proofs.weak_registry.ask.Goals as goal

pub returns-in-Some-clause-left : goal.returns-in-Some-clause-left
returns-in-Some-clause-left g c = record { answers = Some c.in-Some.given ∷ []; in_turn = (_, c.in-Some.ensures, refl); left = refl }

pub returns-in-None-clause-left : goal.returns-in-None-clause-left
returns-in-None-clause-left g c = record { answers = None ∷ []; in_turn = (_, c.in-None.ensures, refl); left = refl }
