use Rattle.page_words.proofs.Steps.{retracts}
use Rattle.page_words.proofs.words.Words.retract.Goals as goal

pub clear_start-requires-clause-step : goal.clear_start-requires-clause-step
clear_start-requires-clause-step c =
    retracts c.retracts_are_steps.ensures c.args.seat.now c.args.a c.requires.off c.requires.dead c.requires.unnamed
