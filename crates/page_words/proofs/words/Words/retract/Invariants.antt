use Rattle.marker_core.specs.SeatSteps.{seat_retracted}
use Rattle.page_words.specs.Seat.{side}
use Rattle.page_words.proofs.words.Words.retract.Given as goal

abbrev pub ghosts-clear_start : goal.ghosts-clear_start
ghosts-clear_start a = record { next = λ _. seat_retracted (side a.seat.now) a.a }
