use Rattle.oilpan.proofs.Keeping.{apart, still, valid}
use Rattle.oilpan.proofs.heap.Oilpan.word.Goals as goal

pub invariant_of-self : goal.invariant_of-self
invariant_of-self g c = record {
  opened = c.read_word.ensures.opened;
  at_rest = still _ _ c.read_word.ensures.setup _ _ _ _ _ _ c.read_word.ensures.asked _ c.args.self.now.at_rest (λ z writes. writes);
  region = apart _ _ c.read_word.ensures.setup _ _ _ _ _ _ c.read_word.ensures.asked _ c.args.self.now.at_rest _ c.args.self.now.region (λ z writes. writes);
  valid = valid _ _ c.read_word.ensures.setup _ _ _ _ _ _ c.read_word.ensures.asked c.args.self.now.valid;
}
