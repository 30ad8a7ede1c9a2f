use Rattle.page_words.proofs.Steps.{marks}
use Rattle.page_words.proofs.ViewFacts.{place_within}
use Rattle.page_words.proofs.words.Words.mark.Goals as goal

pub set_bits_at-found-requires-clause-address : goal.set_bits_at-found-requires-clause-address
set_bits_at-found-requires-clause-address c =
    place_within c.args.seat.now c.args.a c.bodies_lie_apart.ensures c.requires.place

pub set_bits_at-found-requires-clause-step : goal.set_bits_at-found-requires-clause-step
set_bits_at-found-requires-clause-step c =
    marks c.marks_are_steps.ensures c.args.seat.now c.args.a c.requires.on c.requires.place c.requires.may
