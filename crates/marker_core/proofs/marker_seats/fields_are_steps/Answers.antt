use Rattle.marker_core.proofs.MarkerLaws.{fields_are_steps}
use Rattle.marker_core.proofs.marker_seats.fields_are_steps.Goals as goal

pub returns : goal.returns
returns c = fields_are_steps
