use Rattle.marker_core.proofs.SeatSteps.{begins_are_steps}
use Rattle.marker_core.proofs.seats.begins_are_steps.Goals as goal

pub returns : goal.returns
returns c = begins_are_steps
