use Rattle.page_words.specs.Seat.{OnlyLooked}
use Rattle.words_trials.proofs.plain.page_bucket.Given as goal

abbrev pub invariant-loop-a : goal.invariant-loop-a
invariant-loop-a l = OnlyLooked l.fn.seat l.seat
