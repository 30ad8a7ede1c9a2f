use Rattle.marker_core.proofs.SeatSteps.{fills_are_steps}
use Rattle.marker_core.proofs.seats.fills_are_steps.Goals as goal

pub returns : goal.returns
returns c = fills_are_steps
