use Rattle.marker_core.specs.SeatSteps.{seat_stored}
use Rattle.page_words.specs.Seat.{side}
use Rattle.page_words.proofs.words.Words.store.Given as goal

abbrev pub ghosts-store_at : goal.ghosts-store_at
ghosts-store_at a = record { next = λ _. seat_stored (side a.seat.now) a.at a.w }
