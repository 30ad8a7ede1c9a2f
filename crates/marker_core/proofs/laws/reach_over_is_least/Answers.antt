use Rattle.marker_core.proofs.Reached.{reach_over_law}
use Rattle.marker_core.proofs.laws.reach_over_is_least.Goals as goal

pub returns : goal.returns
returns c = reach_over_law c.reach_is_least.ensures
