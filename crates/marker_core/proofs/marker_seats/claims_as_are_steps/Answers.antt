use Rattle.marker_core.proofs.MarkerLaws.{claims_as_are_steps}
use Rattle.marker_core.proofs.marker_seats.claims_as_are_steps.Goals as goal

pub returns : goal.returns
returns c = claims_as_are_steps
