use Rattle.oilpan.proofs.Frames.{watch, stay}
use Rattle.oilpan.proofs.Keeping.{apart, still, valid}
use Rattle.oilpan.proofs.Stepping.{counted, totals, total_lines}
use Rattle.oilpan.proofs.heap.Oilpan.totals.Goals as goal

pub invariant_of-self : goal.invariant_of-self
invariant_of-self g c = record {
  opened = c.ask.ensures.opened;
  at_rest = still _ _ c.ask.ensures.setup _ _ _ _ _ _ c.ask.ensures.asked _ c.args.self.now.at_rest (λ z writes. writes);
  region = apart _ _ c.ask.ensures.setup _ _ _ _ _ _ c.ask.ensures.asked _ c.args.self.now.at_rest _ c.args.self.now.region (λ z writes. writes);
  valid = valid _ _ c.ask.ensures.setup _ _ _ _ _ _ c.ask.ensures.asked c.args.self.now.valid;
}

pub ask-requires-clause-numbered : goal.ask-requires-clause-numbered
ask-requires-clause-numbered g c κs live p t e same = (let no : ⊥ = cc in absurd no)

pub returns-clause-state : goal.returns-clause-state
returns-clause-state g c = counted _ _ _ _ _ _ c.ask.ensures.asked

pub returns-clause-totals : goal.returns-clause-totals
returns-clause-totals g c = totals _ _ _ _ _ _ c.ask.ensures.asked _ _ _ c.in-Objects.is

pub unreachable-requires : goal.unreachable-requires
unreachable-requires g c = total_lines _ _ _ _ _ _ c.ask.ensures.asked c.in_default.not-Objects

pub returns-clause-watches : goal.returns-clause-watches
returns-clause-watches g c = watch _ _ _ _ _ _ _ c.ask.ensures.asked c.args.self.now.valid _ (λ w p e. cc)
