use Rattle.marker_core.specs.MarkerSeats.{marker_claimed}
use Rattle.page_words.specs.Markers.{marker_side}
use Rattle.page_words.proofs.words.Words.claim_as.Given as goal

abbrev pub ghosts-change_at : goal.ghosts-change_at
ghosts-change_at a = record { next = marker_claimed (marker_side a.seat.now) a.at a.expected }
