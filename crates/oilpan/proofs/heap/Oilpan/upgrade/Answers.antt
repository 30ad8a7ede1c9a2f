use Rattle.std.proofs.Common.{◌<◌, true, length, arith}
use Rattle.std.proofs.lemmas.List.{get_or-set_same}
use Rattle.oilpan.proofs.Keeping.{apart, given, valid}
use Rattle.oilpan.proofs.Resting.{rest_more, rest_less}
use Rattle.oilpan.proofs.Slots.{not_upgraded_null, upgrade_lines}
use Rattle.oilpan.proofs.heap.Oilpan.upgrade.Goals as goal

pub invariant_of-self-in-Node-1 : goal.invariant_of-self-in-Node-1
invariant_of-self-in-Node-1 g c = record {
  opened = c.ask.ensures.opened;
  at_rest = given _ _ c.ask.ensures.setup _ _ _ _ _ _ c.ask.ensures.asked _
      (rest_more _ _ c.args.self.now.taken c.in-Some.slot c.in-Some.ensures.low c.args.self.now.at_rest) c.in-Some.slot (λ z writes. writes)
      (get_or-set_same c.args.self.now.taken c.in-Some.slot true true c.in-Some.ensures.low);
  region = apart _ _ c.ask.ensures.setup _ _ _ _ _ _ c.ask.ensures.asked _ c.args.self.now.at_rest _ c.args.self.now.region (λ z writes. writes);
  valid = valid _ _ c.ask.ensures.setup _ _ _ _ _ _ c.ask.ensures.asked c.args.self.now.valid;
}

pub invariant_of-self-in-Null : goal.invariant_of-self-in-Null
invariant_of-self-in-Null g c =
    let low : c.in-Some.slot < length c.args.self.now.heap.core.state.slots = omega (arith, c.args.self.now.at_rest.slots, c.in-Some.ensures.low) in
    record {
      opened = c.ask.ensures.opened;
      at_rest = rest_less _ _ _ c.in-Some.slot (not_upgraded_null _ _ _ _ _ _ _ _ c.ask.ensures.asked c.in-Null.is low)
          (given _ _ c.ask.ensures.setup _ _ _ _ _ _ c.ask.ensures.asked _
          (rest_more _ _ c.args.self.now.taken c.in-Some.slot c.in-Some.ensures.low c.args.self.now.at_rest) c.in-Some.slot (λ z writes. writes)
          (get_or-set_same c.args.self.now.taken c.in-Some.slot true true c.in-Some.ensures.low));
      region = apart _ _ c.ask.ensures.setup _ _ _ _ _ _ c.ask.ensures.asked _ c.args.self.now.at_rest _ c.args.self.now.region (λ z writes. writes);
      valid = valid _ _ c.ask.ensures.setup _ _ _ _ _ _ c.ask.ensures.asked c.args.self.now.valid;
    }

pub unreachable-requires : goal.unreachable-requires
unreachable-requires g c = upgrade_lines _ _ _ _ _ _ _ _ c.ask.ensures.asked c.in_default-ask.not-Node c.in_default-ask.not-Null

pub ask-requires-clause-numbered : goal.ask-requires-clause-numbered
ask-requires-clause-numbered g c κs live p t e same = (let no : ⊥ = cc in absurd no)
