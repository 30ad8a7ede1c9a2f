use Rattle.std.proofs.Common.{eqb}
use Rattle.page_words.specs.Seat.{stop_set}
use Rattle.page_words.proofs.words.Words.set_stop.Given as goal

abbrev pub ghosts-store_at : goal.ghosts-store_at
ghosts-store_at g a = record { next = λ _. (stop_set a.seat.now g.roots (eqb a.w 1)).mutator }
