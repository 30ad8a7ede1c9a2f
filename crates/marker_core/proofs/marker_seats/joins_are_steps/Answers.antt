use Rattle.marker_core.proofs.MarkerLaws.{joins_are_steps}
use Rattle.marker_core.proofs.marker_seats.joins_are_steps.Goals as goal

pub returns : goal.returns
returns c = joins_are_steps
