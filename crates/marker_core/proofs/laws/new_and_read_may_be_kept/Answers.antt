use Rattle.marker_core.proofs.Cycles.{may_be_kept}
use Rattle.marker_core.proofs.laws.new_and_read_may_be_kept.Goals as goal

pub returns : goal.returns
returns c = may_be_kept c.reach_is_least.ensures
