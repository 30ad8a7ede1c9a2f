use Rattle.marker_core.specs.Layout.{has_mark}
use Rattle.marker_core.specs.MarkerSeats.{marker_marked}
use Rattle.page_words.specs.Markers.{marker_side}
use Rattle.page_words.proofs.words.Words.mark_as.Given as goal

abbrev pub ghosts-add_bits_at : goal.ghosts-add_bits_at
ghosts-add_bits_at a = record { next = λ n. marker_marked (marker_side a.seat.now) a.at (has_mark n) }
