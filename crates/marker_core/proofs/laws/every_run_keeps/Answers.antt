use Rattle.marker_core.proofs.Kept.{runs_keep}
use Rattle.marker_core.proofs.laws.every_run_keeps.Goals as goal

pub returns : goal.returns
returns c = runs_keep c.reach_is_least.ensures
