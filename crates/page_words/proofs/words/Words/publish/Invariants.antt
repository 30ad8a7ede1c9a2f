use Rattle.marker_core.specs.SeatSteps.{seat_published}
use Rattle.page_words.specs.Seat.{side}
use Rattle.page_words.proofs.words.Words.publish.Given as goal

abbrev pub ghosts-set_bits_at : goal.ghosts-set_bits_at
ghosts-set_bits_at g a = record { next = λ _. seat_published (side a.seat.now) g.body }
