use Rattle.marker_core.proofs.MarkerFacts.{lent_while_on}
use Rattle.marker_core.proofs.marker_seats.lent_while_on.Goals as goal

pub returns : goal.returns
returns c = lent_while_on
