use Rattle.std.proofs.Common.{◌<◌, true, length, arith}
use Rattle.std.proofs.lemmas.List.{get_or-set_same}
use Rattle.oilpan.proofs.Keeping.{apart, still, valid}
use Rattle.oilpan.proofs.Slots.{tells_now}
use Rattle.oilpan.proofs.heap.Oilpan.weak.Goals as goal

pub invariant_of-self : goal.invariant_of-self
invariant_of-self g c = record {
  opened = c.ask-line.ensures.opened;
  at_rest = still _ _ c.ask-line.ensures.setup _ _ _ _ _ _ c.ask-line.ensures.asked _ c.args.self.now.at_rest (λ z writes. writes);
  region = apart _ _ c.ask-line.ensures.setup _ _ _ _ _ _ c.ask-line.ensures.asked _ c.args.self.now.at_rest _ c.args.self.now.region (λ z writes. writes);
  valid = valid _ _ c.ask-line.ensures.setup _ _ _ _ _ _ c.ask-line.ensures.asked c.args.self.now.valid;
}

pub returns-clause-watched : goal.returns-clause-watched
returns-clause-watched g c = record {
  given = get_or-set_same c.args.self.now.watched c.in-Some.slot true true c.in-Some.ensures.low;
  tells = tells_now _ _ _ _ _ _ _ _ _ c.ask-line.ensures.asked c.slots_name_the_live.ensures c.args.self.now.valid c.requires.root
      (let low : c.in-Some.slot < length c.args.self.now.watched = c.in-Some.ensures.low in omega (arith, c.args.self.now.at_rest.weak));
}

pub ask-line-requires-clause-numbered : goal.ask-line-requires-clause-numbered
ask-line-requires-clause-numbered g c κs live p t e same = (let no : ⊥ = cc in absurd no)
