use Rattle.page_words.proofs.Steps.{stores}
use Rattle.page_words.proofs.ViewFacts.{store_within}
use Rattle.page_words.proofs.words.Words.store.Goals as goal

pub store_at-requires-clause-address : goal.store_at-requires-clause-address
store_at-requires-clause-address c =
    store_within c.args.seat.now c.args.a c.args.w c.bodies_lie_apart.ensures c.requires.allowed

pub store_at-requires-clause-step : goal.store_at-requires-clause-step
store_at-requires-clause-step c = stores c.stores_are_steps.ensures c.args.seat.now c.args.a c.args.w c.requires.allowed
