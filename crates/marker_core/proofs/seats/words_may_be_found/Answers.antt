use Rattle.marker_core.proofs.SeatFacts.{words_may_be_found}
use Rattle.marker_core.proofs.seats.words_may_be_found.Goals as goal

pub returns : goal.returns
returns c = words_may_be_found
