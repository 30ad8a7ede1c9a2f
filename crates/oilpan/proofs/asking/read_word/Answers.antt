use Rattle.oilpan.proofs.Commands.{word_lines}
use Rattle.oilpan.proofs.asking.read_word.Goals as goal

pub ask-requires-clause-numbered : goal.ask-requires-clause-numbered
ask-requires-clause-numbered g c κs live p t e same = (let no : ⊥ = cc in absurd no)
