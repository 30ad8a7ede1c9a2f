use Rattle.page_words.proofs.MarkerCalls.{reads_field, wanted_within}
use Rattle.page_words.proofs.words.Words.read.Goals as goal

pub look_at-requires-clause-address : goal.look_at-requires-clause-address
look_at-requires-clause-address c = wanted_within c.args.seat.now c.args.a c.places_are_within.ensures.view c.requires.wanted

pub look_at-requires-clause-step : goal.look_at-requires-clause-step
look_at-requires-clause-step c = reads_field c.fields_are_steps.ensures c.args.seat.now c.args.a c.requires.wanted

pub returns-clause-word : goal.returns-clause-word
returns-clause-word c = c.look_at.ensures.word.reference c.requires.wanted
