use Rattle.marker_core.proofs.SeatSteps.{stores_are_steps}
use Rattle.marker_core.proofs.seats.stores_are_steps.Goals as goal

pub returns : goal.returns
returns c = stores_are_steps
