use Rattle.marker_core.specs.SeatSteps.{seat_claimed}
use Rattle.page_words.specs.Seat.{side}
use Rattle.page_words.proofs.words.Words.claim.Given as goal

abbrev pub ghosts-exchange_at : goal.ghosts-exchange_at
ghosts-exchange_at a = record { next = seat_claimed (side a.seat.now) a.at }
