use Rattle.std.proofs.Common.{◌<◌, length, arith}
use Rattle.std.proofs.lemmas.List.{get_or-set_same}
use Rattle.oilpan.specs.declared.sharing.Sharing.TheVariants.{Free, Given}
use Rattle.oilpan.proofs.Exports.{export_wanting, exported_names, exported_nodes}
use Rattle.oilpan.proofs.Keeping.{still, valid}
use Rattle.oilpan.proofs.Regions.{region_answered, region_given, rest_shared}
use Rattle.oilpan.proofs.heap.Oilpan.share.Goals as goal

pub invariant_of-self : goal.invariant_of-self
invariant_of-self g c = record {
  opened = c.ask.ensures.opened;
  at_rest = still _ _ c.ask.ensures.setup _ _ _ _ _ _ c.ask.ensures.asked _ c.args.self.now.at_rest (λ z writes. writes);
  region = region_given _ _ _ (c.ask.ensures.asked.region c.args.self.now.at_rest.running) _
      (rest_shared _ _ c.in-Some.slot c.in-Some.ensures.low c.args.self.now.region c.in-Some.ensures.free) c.in-Some.slot (λ z writes. writes)
      (get_or-set_same c.args.self.now.shared c.in-Some.slot Given Free c.in-Some.ensures.low);
  valid = valid _ _ c.ask.ensures.setup _ _ _ _ _ _ c.ask.ensures.asked c.args.self.now.valid;
}

pub invariant_of-self-in-Memory : goal.invariant_of-self-in-Memory
invariant_of-self-in-Memory g c = record {
  opened = c.ask.ensures.opened;
  at_rest = still _ _ c.ask.ensures.setup _ _ _ _ _ _ c.ask.ensures.asked _ c.args.self.now.at_rest (λ z writes. writes);
  region = region_answered _ _ _
      (export_wanting _ _ _ _ _ _ _ _ _ c.ask.ensures.asked c.args.self.now.at_rest.running c.requires.root c.in-Memory.is) c.args.self.now.region;
  valid = valid _ _ c.ask.ensures.setup _ _ _ _ _ _ c.ask.ensures.asked c.args.self.now.valid;
}

pub returns-in-Fine-clause-nodes : goal.returns-in-Fine-clause-nodes
returns-in-Fine-clause-nodes g c =
    exported_nodes _ _ _ _ _ _ _ _ _ c.ask.ensures.asked c.args.self.now.at_rest.running c.requires.root c.in-Fine.is

pub returns-in-Fine-clause-shared : goal.returns-in-Fine-clause-shared
returns-in-Fine-clause-shared g c =
    let low : c.in-Some.slot < length c.args.self.now.shared = c.in-Some.ensures.low in
    record {
      given = get_or-set_same c.args.self.now.shared c.in-Some.slot Given Free low;
      names = exported_names _ _ _ _ _ _ _ _ _ c.ask.ensures.asked c.args.self.now.at_rest.running c.requires.root c.in-Fine.is
          (omega (arith, low, c.args.self.now.region.slots));
    }
