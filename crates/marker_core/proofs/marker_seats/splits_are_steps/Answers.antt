use Rattle.marker_core.proofs.MarkerLaws.{splits_are_steps}
use Rattle.marker_core.proofs.marker_seats.splits_are_steps.Goals as goal

pub returns : goal.returns
returns c = splits_are_steps
