use Rattle.marker_core.proofs.SeatFacts.{views_are_ok}
use Rattle.marker_core.proofs.seats.views_are_ok.Goals as goal

pub returns : goal.returns
returns c = views_are_ok
