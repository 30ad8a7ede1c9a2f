use Rattle.std.proofs.Common.{◌<◌, length, arith}
use Rattle.oilpan.proofs.Frames.{watch, stay_but}
use Rattle.oilpan.proofs.Keeping.{apart, nulled, valid}
use Rattle.oilpan.proofs.Resting.{rest_less}
use Rattle.oilpan.proofs.Slots.{dropped, dropped_null}
use Rattle.oilpan.proofs.heap.Oilpan.release.Goals as goal

pub invariant_of-self : goal.invariant_of-self
invariant_of-self g c =
    let low : c.args.root.slot < length c.args.self.now.heap.core.state.slots = omega (arith, c.args.self.now.at_rest.slots, c.args.root.in_range) in
    record {
      opened = c.ask-line.ensures.opened;
      at_rest = rest_less _ _ _ c.args.root.slot (dropped_null _ _ _ _ _ _ _ c.ask-line.ensures.asked low)
          (nulled _ _ c.ask-line.ensures.setup _ _ _ _ _ _ c.ask-line.ensures.asked _ c.args.self.now.at_rest c.args.root.slot (λ z writes. writes)
          (dropped_null _ _ _ _ _ _ _ c.ask-line.ensures.asked low));
      region = apart _ _ c.ask-line.ensures.setup _ _ _ _ _ _ c.ask-line.ensures.asked _ c.args.self.now.at_rest _ c.args.self.now.region (λ z writes. writes);
      valid = valid _ _ c.ask-line.ensures.setup _ _ _ _ _ _ c.ask-line.ensures.asked c.args.self.now.valid;
    }

pub returns-clause-state : goal.returns-clause-state
returns-clause-state g c = dropped _ _ _ _ _ _ _ c.ask-line.ensures.asked

pub returns-clause-stays : goal.returns-clause-stays
returns-clause-stays g c = stay_but _ _ _ _ _ _ _ c.ask-line.ensures.asked c.args.root.slot (λ z writes. writes)

pub returns-clause-watches : goal.returns-clause-watches
returns-clause-watches g c = watch _ _ _ _ _ _ _ c.ask-line.ensures.asked c.args.self.now.valid _ (λ w p e. cc)

pub ask-line-requires-clause-numbered : goal.ask-line-requires-clause-numbered
ask-line-requires-clause-numbered g c κs live p t e same = (let no : ⊥ = cc in absurd no)
