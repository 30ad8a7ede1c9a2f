use Rattle.std.proofs.Common.{eqb}
use Rattle.marker_core.specs.MarkerSeats.{marker_polled}
use Rattle.page_words.specs.Markers.{marker_side}
use Rattle.page_words.proofs.words.Words.stopped.Given as goal

abbrev pub ghosts-look_at : goal.ghosts-look_at
ghosts-look_at a = record { next = λ n. marker_polled (marker_side a.seat.now) (eqb n 1) }
