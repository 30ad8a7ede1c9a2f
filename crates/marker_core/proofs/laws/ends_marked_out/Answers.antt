use Rattle.marker_core.proofs.Cycles.{ends_marked_out}
use Rattle.marker_core.proofs.laws.ends_marked_out.Goals as goal

pub returns : goal.returns
returns c = ends_marked_out
