use Rattle.marker_core.proofs.Settled.{settled_has_ended}
use Rattle.marker_core.proofs.laws.settled_has_ended.Goals as goal

pub returns : goal.returns
returns c = settled_has_ended c.reach_is_least.ensures
