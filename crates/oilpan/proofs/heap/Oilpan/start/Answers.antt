use Rattle.oilpan.proofs.Frames.{watch, stay}
use Rattle.oilpan.proofs.Keeping.{apart, still, valid}
use Rattle.oilpan.proofs.Stepping.{start_refused, start_wanting, begun, begun_marks}
use Rattle.oilpan.proofs.heap.Oilpan.start.Goals as goal

pub invariant_of-self : goal.invariant_of-self
invariant_of-self g c = record {
  opened = c.ask.ensures.opened;
  at_rest = still _ _ c.ask.ensures.setup _ _ _ _ _ _ c.ask.ensures.asked _ c.args.self.now.at_rest (λ z writes. writes);
  region = apart _ _ c.ask.ensures.setup _ _ _ _ _ _ c.ask.ensures.asked _ c.args.self.now.at_rest _ c.args.self.now.region (λ z writes. writes);
  valid = valid _ _ c.ask.ensures.setup _ _ _ _ _ _ c.ask.ensures.asked c.args.self.now.valid;
}

pub ask-requires-clause-numbered : goal.ask-requires-clause-numbered
ask-requires-clause-numbered g c κs live p t e same = (let no : ⊥ = cc in absurd no)

pub returns-in-Memory-clause-fault : goal.returns-in-Memory-clause-fault
returns-in-Memory-clause-fault g c = start_wanting _ _ _ _ _ _ c.ask.ensures.asked c.in-Memory.is

pub returns-in-Refused-clause-fault : goal.returns-in-Refused-clause-fault
returns-in-Refused-clause-fault g c = start_refused _ _ _ _ _ _ c.ask.ensures.asked _ c.in-Refused.is

pub returns-in_default-clause-begun : goal.returns-in_default-clause-begun
returns-in_default-clause-begun g c = begun _ _ _ _ _ _ c.ask.ensures.asked c.in_default.not-Memory c.in_default.not-Refused

pub returns-in_default-clause-phase : goal.returns-in_default-clause-phase
returns-in_default-clause-phase g c =
    begun_marks _ _ _ _ _ _ c.ask.ensures.asked (begun _ _ _ _ _ _ c.ask.ensures.asked c.in_default.not-Memory c.in_default.not-Refused)

pub returns-in_default-clause-watches : goal.returns-in_default-clause-watches
returns-in_default-clause-watches g c = watch _ _ _ _ _ _ _ c.ask.ensures.asked c.args.self.now.valid _ (λ w p e. cc)

pub returns-in-Memory-clause-watches : goal.returns-in-Memory-clause-watches
returns-in-Memory-clause-watches g c = watch _ _ _ _ _ _ _ c.ask.ensures.asked c.args.self.now.valid _ (λ w p e. cc)

pub returns-in-Refused-clause-watches : goal.returns-in-Refused-clause-watches
returns-in-Refused-clause-watches g c = watch _ _ _ _ _ _ _ c.ask.ensures.asked c.args.self.now.valid _ (λ w p e. cc)
