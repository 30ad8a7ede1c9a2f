use Rattle.marker_core.proofs.MarkerFacts.{marker_words_may_be_found}
use Rattle.marker_core.proofs.marker_seats.marker_words_may_be_found.Goals as goal

pub returns : goal.returns
returns c = marker_words_may_be_found
