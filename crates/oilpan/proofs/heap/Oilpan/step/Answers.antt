use Rattle.oilpan.proofs.Frames.{watch, stay}
use Rattle.oilpan.proofs.Keeping.{apart, still, valid}
use Rattle.oilpan.proofs.Stepping.{step_refused, stepped, step_lines}
use Rattle.oilpan.proofs.heap.Oilpan.step.Goals as goal

pub invariant_of-self : goal.invariant_of-self
invariant_of-self g c = record {
  opened = c.ask.ensures.opened;
  at_rest = still _ _ c.ask.ensures.setup _ _ _ _ _ _ c.ask.ensures.asked _ c.args.self.now.at_rest (λ z writes. writes);
  region = apart _ _ c.ask.ensures.setup _ _ _ _ _ _ c.ask.ensures.asked _ c.args.self.now.at_rest _ c.args.self.now.region (λ z writes. writes);
  valid = valid _ _ c.ask.ensures.setup _ _ _ _ _ _ c.ask.ensures.asked c.args.self.now.valid;
}

pub ask-requires-clause-numbered : goal.ask-requires-clause-numbered
ask-requires-clause-numbered g c κs live p t e same = (let no : ⊥ = cc in absurd no)

pub returns-in-Step-clause-stepped : goal.returns-in-Step-clause-stepped
returns-in-Step-clause-stepped g c = stepped _ _ _ _ _ _ _ c.ask.ensures.asked _ _ c.in-Step.is

pub returns-in-Refused-clause-fault : goal.returns-in-Refused-clause-fault
returns-in-Refused-clause-fault g c = step_refused _ _ _ _ _ _ _ c.ask.ensures.asked _ c.in-Refused.is

pub unreachable-requires : goal.unreachable-requires
unreachable-requires g c = step_lines _ _ _ _ _ _ _ c.ask.ensures.asked c.in_default.not-Step c.in_default.not-Refused

pub returns-in-Step-clause-watches : goal.returns-in-Step-clause-watches
returns-in-Step-clause-watches g c = watch _ _ _ _ _ _ _ c.ask.ensures.asked c.args.self.now.valid _ (λ w p e. cc)

pub returns-in-Refused-clause-watches : goal.returns-in-Refused-clause-watches
returns-in-Refused-clause-watches g c = watch _ _ _ _ _ _ _ c.ask.ensures.asked c.args.self.now.valid _ (λ w p e. cc)
