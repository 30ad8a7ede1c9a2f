use Rattle.line_words.proofs.WordPlaces.{word_found}
use Rattle.line_words.proofs.numerals.number_after_spaces.Goals as goal

pub returns-in-None-clause-word : goal.returns-in-None-clause-word
returns-in-None-clause-word c =
    rw c.long_number.ensures.start (word_found _ _ _ _ c.past_spaces.ensures c.long_number.ensures.end)
