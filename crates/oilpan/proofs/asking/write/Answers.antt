use Rattle.oilpan.proofs.Commands.{write_lines, write_makes_none}
use Rattle.oilpan.proofs.asking.write.Goals as goal

pub ask-requires-clause-numbered : goal.ask-requires-clause-numbered
ask-requires-clause-numbered g c κs live p t e same = absurd (write_makes_none _ c.requires.write p t e same)
