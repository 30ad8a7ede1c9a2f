use Rattle.marker_core.proofs.MarkerLaws.{marks_as_are_steps}
use Rattle.marker_core.proofs.marker_seats.marks_as_are_steps.Goals as goal

pub returns : goal.returns
returns c = marks_as_are_steps
