use Rattle.marker_core.proofs.SeatPublishes.{publishes_are_steps}
use Rattle.marker_core.proofs.seats.publishes_are_steps.Goals as goal

pub returns : goal.returns
returns c = publishes_are_steps
