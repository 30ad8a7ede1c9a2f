use Rattle.marker_core.specs.SeatSteps.{seat_filled}
use Rattle.page_words.specs.Seat.{side}
use Rattle.page_words.proofs.words.Words.fill.Given as goal

abbrev pub ghosts-store_at : goal.ghosts-store_at
ghosts-store_at a = record { next = λ _. seat_filled (side a.seat.now) a.at a.w }
