use Rattle.marker_core.proofs.SeatSteps.{retracts_are_steps}
use Rattle.marker_core.proofs.seats.retracts_are_steps.Goals as goal

pub returns : goal.returns
returns c = retracts_are_steps
