use Rattle.line_words.proofs.WordPlaces.{word_found}
use Rattle.line_words.proofs.ShortNumbers.{digits_end}
use Rattle.line_words.proofs.numerals.few_digits.Goals as goal

pub returns-then-is_plain-clause-word : goal.returns-then-is_plain-clause-word
returns-then-is_plain-clause-word c =
    word_found _ _ _ _ c.past_spaces-start.ensures
    (digits_end _ _ _ _ _ c.digits-place.ensures c.is_end.ensures c.if-not-is_end.false)

pub returns-else-is_plain-clause-word : goal.returns-else-is_plain-clause-word
returns-else-is_plain-clause-word c =
    word_found _ _ _ _ c.past_spaces-start.ensures
    (digits_end _ _ _ _ _ c.digits-place.ensures c.is_end.ensures c.if-not-is_end.false)
