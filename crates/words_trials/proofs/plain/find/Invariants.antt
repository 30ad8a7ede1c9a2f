use Rattle.page_words.specs.Seat.{OnlyLooked}
use Rattle.words_trials.proofs.plain.find.Given as goal

abbrev pub invariant-loop-page : goal.invariant-loop-page
invariant-loop-page l = OnlyLooked l.fn.seat l.seat
