use Rattle.marker_core.proofs.SeatSteps.{marks_are_steps}
use Rattle.marker_core.proofs.seats.marks_are_steps.Goals as goal

pub returns : goal.returns
returns c = marks_are_steps
