use Rattle.std.proofs.Common.{refl}
use Rattle.page_words.proofs.MarkerCalls.{claims_object, known_within, claimed_is_fresh}
use Rattle.page_words.proofs.words.Words.claim_as.Goals as goal

pub change_at-requires-clause-address : goal.change_at-requires-clause-address
change_at-requires-clause-address c = known_within c.args.seat.now c.args.a c.places_are_within.ensures.view c.requires.known

pub change_at-requires-clause-step : goal.change_at-requires-clause-step
change_at-requires-clause-step c =
    claims_object c.claims_as_are_steps.ensures c.args.seat.now c.args.a c.args.header c.with_traced.result c.requires.known c.requires.hand
    c.requires.last c.requires.grey c.with_traced.ensures.bit

pub returns-clause-fresh : goal.returns-clause-fresh
returns-clause-fresh c same =
    claimed_is_fresh c.args.seat.now c.args.a c.args.header c.change_at.result c.change_at.ensures.word c.requires.grey same

pub returns-clause-view : goal.returns-clause-view
returns-clause-view c = (c.change_at.result, c.change_at.ensures.word.header c.requires.known, refl, c.change_at.ensures.view)
