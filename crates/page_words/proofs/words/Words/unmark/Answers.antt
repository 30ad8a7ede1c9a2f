use Rattle.page_words.proofs.Steps.{unmarks}
use Rattle.page_words.proofs.ViewFacts.{place_within}
use Rattle.page_words.proofs.words.Words.unmark.Goals as goal

pub keep_bits_at-requires-clause-address : goal.keep_bits_at-requires-clause-address
keep_bits_at-requires-clause-address c =
    place_within c.args.seat.now c.args.a c.bodies_lie_apart.ensures c.requires.place

pub keep_bits_at-requires-clause-step : goal.keep_bits_at-requires-clause-step
keep_bits_at-requires-clause-step c = unmarks c.unmarks_are_steps.ensures c.args.seat.now c.args.a c.requires.off c.requires.place
