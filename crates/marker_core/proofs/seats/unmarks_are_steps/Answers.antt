use Rattle.marker_core.proofs.SeatSteps.{unmarks_are_steps}
use Rattle.marker_core.proofs.seats.unmarks_are_steps.Goals as goal

pub returns : goal.returns
returns c = unmarks_are_steps
