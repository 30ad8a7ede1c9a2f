use Rattle.marker_core.specs.MarkerSeats.{marker_read}
use Rattle.page_words.specs.Markers.{marker_side}
use Rattle.page_words.proofs.words.Words.read.Given as goal

abbrev pub ghosts-look_at : goal.ghosts-look_at
ghosts-look_at a = record { next = marker_read (marker_side a.seat.now) }
