use Rattle.marker_core.proofs.MarkerLaws.{bits_are_steps}
use Rattle.marker_core.proofs.marker_seats.bits_are_steps.Goals as goal

pub returns : goal.returns
returns c = bits_are_steps
