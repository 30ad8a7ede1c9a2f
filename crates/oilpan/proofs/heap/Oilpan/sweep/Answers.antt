use Rattle.oilpan.proofs.Frames.{watch, stay}
use Rattle.oilpan.proofs.Keeping.{apart, still, valid}
use Rattle.oilpan.proofs.Stepping.{sweep_refused, swept_pages, swept, sweep_lines}
use Rattle.oilpan.proofs.heap.Oilpan.sweep.Goals as goal

pub invariant_of-self : goal.invariant_of-self
invariant_of-self g c = record {
  opened = c.ask.ensures.opened;
  at_rest = still _ _ c.ask.ensures.setup _ _ _ _ _ _ c.ask.ensures.asked _ c.args.self.now.at_rest (λ z writes. writes);
  region = apart _ _ c.ask.ensures.setup _ _ _ _ _ _ c.ask.ensures.asked _ c.args.self.now.at_rest _ c.args.self.now.region (λ z writes. writes);
  valid = valid _ _ c.ask.ensures.setup _ _ _ _ _ _ c.ask.ensures.asked c.args.self.now.valid;
}

pub ask-requires-clause-numbered : goal.ask-requires-clause-numbered
ask-requires-clause-numbered g c κs live p t e same = (let no : ⊥ = cc in absurd no)

pub returns-in-Swept-clause-pages : goal.returns-in-Swept-clause-pages
returns-in-Swept-clause-pages g c = swept_pages _ _ _ _ _ _ _ c.ask.ensures.asked _ c.in-Swept.is

pub returns-in-Swept-clause-swept : goal.returns-in-Swept-clause-swept
returns-in-Swept-clause-swept g c = swept _ _ _ _ _ _ _ c.ask.ensures.asked _ c.in-Swept.is

pub returns-in-Refused-clause-fault : goal.returns-in-Refused-clause-fault
returns-in-Refused-clause-fault g c = sweep_refused _ _ _ _ _ _ _ c.ask.ensures.asked _ c.in-Refused.is

pub unreachable-requires : goal.unreachable-requires
unreachable-requires g c = sweep_lines _ _ _ _ _ _ _ c.ask.ensures.asked c.in_default.not-Swept c.in_default.not-Refused

pub returns-in-Swept-clause-watches : goal.returns-in-Swept-clause-watches
returns-in-Swept-clause-watches g c = watch _ _ _ _ _ _ _ c.ask.ensures.asked c.args.self.now.valid _ (λ w p e. cc)

pub returns-in-Refused-clause-watches : goal.returns-in-Refused-clause-watches
returns-in-Refused-clause-watches g c = watch _ _ _ _ _ _ _ c.ask.ensures.asked c.args.self.now.valid _ (λ w p e. cc)
