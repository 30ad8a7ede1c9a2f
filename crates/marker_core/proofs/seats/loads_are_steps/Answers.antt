use Rattle.marker_core.proofs.SeatSteps.{loads_are_steps}
use Rattle.marker_core.proofs.seats.loads_are_steps.Goals as goal

pub returns : goal.returns
returns c = loads_are_steps
