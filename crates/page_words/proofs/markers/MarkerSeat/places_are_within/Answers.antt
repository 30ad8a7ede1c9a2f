use Rattle.std.proofs.Common.{subst}
use Rattle.marker_core.specs.MarkerFacts.{IsMarkerOk}
use Rattle.page_words.specs.Markers.{MarkerSeatView, marker_side}
use Rattle.page_words.proofs.MarkerSeats.{marker_is_ok}
use Rattle.page_words.proofs.markers.MarkerSeat.places_are_within.Goals as goal

pub returns-clause-view : goal.returns-clause-view
returns-clause-view c =
    subst (λ (v : MarkerSeatView). IsMarkerOk (marker_side v)) c.self.view_is
    (marker_is_ok c.markers_are_ok.ensures c.self.inside.seat.me.0 c.self.invariant.sure)
