use Rattle.marker_core.proofs.MarkerFacts.{markers_are_ok}
use Rattle.marker_core.proofs.marker_seats.markers_are_ok.Goals as goal

pub returns : goal.returns
returns c = markers_are_ok
