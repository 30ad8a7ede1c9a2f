use Rattle.line_words.proofs.WordPlaces.{word_found}
use Rattle.line_words.proofs.cursor.next_word.Goals as goal

pub returns : goal.returns
returns c = word_found _ _ _ _ c.past_spaces-start.ensures c.word_end-end.ensures
