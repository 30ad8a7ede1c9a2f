use Rattle.oilpan.proofs.Keeping.{apart, still, valid}
use Rattle.oilpan.proofs.heap.Oilpan.clear.Goals as goal

pub invariant_of-self : goal.invariant_of-self
invariant_of-self g c = record {
  opened = c.write.ensures.opened;
  at_rest = still _ _ c.write.ensures.setup _ _ _ _ _ _ c.write.ensures.asked _ c.args.self.now.at_rest (λ z writes. writes);
  region = apart _ _ c.write.ensures.setup _ _ _ _ _ _ c.write.ensures.asked _ c.args.self.now.at_rest _ c.args.self.now.region (λ z writes. writes);
  valid = valid _ _ c.write.ensures.setup _ _ _ _ _ _ c.write.ensures.asked c.args.self.now.valid;
}
