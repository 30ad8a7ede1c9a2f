use Rattle.marker_core.specs.Layout.{has_mark}
use Rattle.marker_core.specs.SeatSteps.{seat_marked}
use Rattle.page_words.specs.Seat.{side}
use Rattle.page_words.proofs.words.Words.mark.Given as goal

abbrev pub ghosts-set_bits_at : goal.ghosts-set_bits_at
ghosts-set_bits_at a = record { next = λ n. seat_marked (side a.seat.now) a.at (has_mark n) }
