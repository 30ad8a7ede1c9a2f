use Rattle.marker_core.proofs.Kept.{steps_keep}
use Rattle.marker_core.proofs.laws.every_step_keeps.Goals as goal

pub returns : goal.returns
returns c = steps_keep c.reach_is_least.ensures
