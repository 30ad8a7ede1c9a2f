use Rattle.std.proofs.Common.{true}
use Rattle.std.proofs.lemmas.List.{get_or-set_same}
use Rattle.oilpan.proofs.Frames.{watch}
use Rattle.oilpan.proofs.Keeping.{apart, given, valid}
use Rattle.oilpan.proofs.Making.{full_null, memory_null}
use Rattle.oilpan.proofs.Resting.{rest_more, rest_less}
use Rattle.oilpan.proofs.heap.Oilpan.make.Goals as goal

pub invariant_of-self-in-Placed : goal.invariant_of-self-in-Placed
invariant_of-self-in-Placed g c = record {
  opened = c.ask.ensures.opened;
  at_rest = given _ _ c.ask.ensures.setup _ _ _ _ _ _ c.ask.ensures.asked _
      (rest_more _ _ c.args.self.now.taken c.in-Some.slot c.in-Some.ensures.low c.args.self.now.at_rest) c.in-Some.slot (λ z writes. writes)
      (get_or-set_same c.args.self.now.taken c.in-Some.slot true true c.in-Some.ensures.low);
  region = apart _ _ c.ask.ensures.setup _ _ _ _ _ _ c.ask.ensures.asked _ c.args.self.now.at_rest _ c.args.self.now.region (λ z writes. writes);
  valid = valid _ _ c.ask.ensures.setup _ _ _ _ _ _ c.ask.ensures.asked c.args.self.now.valid;
}

pub invariant_of-self-in-Full : goal.invariant_of-self-in-Full
invariant_of-self-in-Full g c = record {
  opened = c.ask.ensures.opened;
  at_rest = rest_less _ _ _ c.in-Some.slot
      (full_null _ _ _ _ _ _ _ _ _ c.ask.ensures.asked c.in-Full.is (c.args.self.now.at_rest.free c.in-Some.slot c.in-Some.ensures.free))
      (given _ _ c.ask.ensures.setup _ _ _ _ _ _ c.ask.ensures.asked _
      (rest_more _ _ c.args.self.now.taken c.in-Some.slot c.in-Some.ensures.low c.args.self.now.at_rest) c.in-Some.slot (λ z writes. writes)
      (get_or-set_same c.args.self.now.taken c.in-Some.slot true true c.in-Some.ensures.low));
  region = apart _ _ c.ask.ensures.setup _ _ _ _ _ _ c.ask.ensures.asked _ c.args.self.now.at_rest _ c.args.self.now.region (λ z writes. writes);
  valid = valid _ _ c.ask.ensures.setup _ _ _ _ _ _ c.ask.ensures.asked c.args.self.now.valid;
}

pub invariant_of-self-in-Memory : goal.invariant_of-self-in-Memory
invariant_of-self-in-Memory g c = record {
  opened = c.ask.ensures.opened;
  at_rest = rest_less _ _ _ c.in-Some.slot
      (memory_null _ _ _ _ _ _ _ _ _ c.ask.ensures.asked c.in-Memory.is (c.args.self.now.at_rest.free c.in-Some.slot c.in-Some.ensures.free))
      (given _ _ c.ask.ensures.setup _ _ _ _ _ _ c.ask.ensures.asked _
      (rest_more _ _ c.args.self.now.taken c.in-Some.slot c.in-Some.ensures.low c.args.self.now.at_rest) c.in-Some.slot (λ z writes. writes)
      (get_or-set_same c.args.self.now.taken c.in-Some.slot true true c.in-Some.ensures.low));
  region = apart _ _ c.ask.ensures.setup _ _ _ _ _ _ c.ask.ensures.asked _ c.args.self.now.at_rest _ c.args.self.now.region (λ z writes. writes);
  valid = valid _ _ c.ask.ensures.setup _ _ _ _ _ _ c.ask.ensures.asked c.args.self.now.valid;
}

pub returns-in-Placed-clause-watches : goal.returns-in-Placed-clause-watches
returns-in-Placed-clause-watches g c = watch _ _ _ _ _ _ _ c.ask.ensures.asked c.args.self.now.valid _ (λ w p e. cc)

pub returns-in-Full-clause-watches : goal.returns-in-Full-clause-watches
returns-in-Full-clause-watches g c = watch _ _ _ _ _ _ _ c.ask.ensures.asked c.args.self.now.valid _ (λ w p e. cc)

pub returns-in-Memory-clause-watches : goal.returns-in-Memory-clause-watches
returns-in-Memory-clause-watches g c = watch _ _ _ _ _ _ _ c.ask.ensures.asked c.args.self.now.valid _ (λ w p e. cc)
