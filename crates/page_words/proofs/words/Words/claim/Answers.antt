use Rattle.page_words.proofs.Steps.{claims}
use Rattle.page_words.proofs.ViewFacts.{place_within}
use Rattle.page_words.proofs.Marks.{finds_grey, grey_is_told}
use Rattle.page_words.proofs.words.Words.claim.Goals as goal

pub exchange_at-requires-clause-address : goal.exchange_at-requires-clause-address
exchange_at-requires-clause-address c =
    place_within c.args.seat.now c.args.a c.bodies_lie_apart.ensures c.requires.place

pub exchange_at-requires-clause-step : goal.exchange_at-requires-clause-step
exchange_at-requires-clause-step c =
    claims c.claims_are_steps.ensures c.args.seat.now c.args.a c.args.header c.with_traced-traced.result c.requires.on c.requires.hand c.requires.place
    c.requires.header c.with_traced-traced.ensures.bit

pub returns-clause-grey : goal.returns-clause-grey
returns-clause-grey c =
    grey_is_told c.args.seat.now c.args.a c.exchange_at.result c.exchange_at.ensures.word c.requires.place c.args.header c.requires.header

pub returns-clause-view : goal.returns-clause-view
returns-clause-view c = (
  c.exchange_at.result,
  c.exchange_at.ensures.word,
  finds_grey c.args.seat.now c.args.a c.exchange_at.result c.exchange_at.ensures.word c.requires.place c.args.header c.requires.header,
  c.exchange_at.ensures.view,
)
