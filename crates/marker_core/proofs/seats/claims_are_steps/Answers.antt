use Rattle.marker_core.proofs.SeatSteps.{claims_are_steps}
use Rattle.marker_core.proofs.seats.claims_are_steps.Goals as goal

pub returns : goal.returns
returns c = claims_are_steps
