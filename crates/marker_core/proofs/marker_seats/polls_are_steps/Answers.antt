use Rattle.marker_core.proofs.MarkerLaws.{polls_are_steps}
use Rattle.marker_core.proofs.marker_seats.polls_are_steps.Goals as goal

pub returns : goal.returns
returns c = polls_are_steps
