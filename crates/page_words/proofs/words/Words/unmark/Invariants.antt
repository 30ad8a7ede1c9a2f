use Rattle.marker_core.specs.SeatSteps.{seat_unmarked}
use Rattle.page_words.specs.Seat.{side}
use Rattle.page_words.proofs.words.Words.unmark.Given as goal

abbrev pub ghosts-keep_bits_at : goal.ghosts-keep_bits_at
ghosts-keep_bits_at a = record { next = λ _. seat_unmarked (side a.seat.now) a.at }
