use Rattle.page_words.proofs.Steps.{fills}
use Rattle.page_words.proofs.words.Words.fill.Goals as goal

pub store_at-requires-clause-step : goal.store_at-requires-clause-step
store_at-requires-clause-step c =
    fills c.fills_are_steps.ensures c.args.seat.now c.args.a c.args.w c.requires.address c.requires.outside
