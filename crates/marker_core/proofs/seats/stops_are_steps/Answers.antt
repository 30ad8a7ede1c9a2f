use Rattle.marker_core.proofs.SeatEnds.{stops_are_steps}
use Rattle.marker_core.proofs.seats.stops_are_steps.Goals as goal

pub returns : goal.returns
returns c = stops_are_steps
