use Rattle.marker_core.proofs.MarkerLaws.{looks_are_steps}
use Rattle.marker_core.proofs.marker_seats.looks_are_steps.Goals as goal

pub returns : goal.returns
returns c = looks_are_steps
