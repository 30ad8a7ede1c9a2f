use Rattle.marker_core.proofs.FirstState.{idle_ok}
use Rattle.marker_core.proofs.laws.idle_is_ok.Goals as goal

pub returns : goal.returns
returns c = idle_ok
