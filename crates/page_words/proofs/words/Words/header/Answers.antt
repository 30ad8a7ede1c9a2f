use Rattle.page_words.proofs.MarkerCalls.{reads_header, known_within}
use Rattle.page_words.proofs.words.Words.header.Goals as goal

pub look_at-requires-clause-address : goal.look_at-requires-clause-address
look_at-requires-clause-address c = known_within c.args.seat.now c.args.a c.places_are_within.ensures.view c.requires.known

pub look_at-requires-clause-step : goal.look_at-requires-clause-step
look_at-requires-clause-step c = reads_header c.looks_are_steps.ensures c.args.seat.now c.args.a c.requires.known

pub returns-clause-word : goal.returns-clause-word
returns-clause-word c = c.look_at.ensures.word.header c.requires.known
