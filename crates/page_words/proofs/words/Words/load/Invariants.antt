use Rattle.marker_core.specs.SeatSteps.{seat_loaded}
use Rattle.page_words.specs.Seat.{side}
use Rattle.page_words.proofs.words.Words.load.Given as goal

abbrev pub ghosts-load_at : goal.ghosts-load_at
ghosts-load_at g a = record { next = seat_loaded (side a.seat.now) a.at g.W.Reason.why }
