use Rattle.std.proofs.Common.{true}
use Rattle.std.proofs.lemmas.List.{get_or-set_same}
use Rattle.oilpan.proofs.Exports.{import_lines, import_null, imported_node, imported_nodes}
use Rattle.oilpan.proofs.Keeping.{apart, given, valid}
use Rattle.oilpan.proofs.Resting.{rest_more, rest_less}
use Rattle.oilpan.proofs.heap.Oilpan.root_of.Goals as goal

pub invariant_of-self-in-Node-1 : goal.invariant_of-self-in-Node-1
invariant_of-self-in-Node-1 g c = record {
  opened = c.ask.ensures.opened;
  at_rest = given _ _ c.ask.ensures.setup _ _ _ _ _ _ c.ask.ensures.asked _
      (rest_more _ _ c.args.self.now.taken c.in-Some.slot c.in-Some.ensures.low c.args.self.now.at_rest) c.in-Some.slot (λ z writes. writes)
      (get_or-set_same c.args.self.now.taken c.in-Some.slot true true c.in-Some.ensures.low);
  region = apart _ _ c.ask.ensures.setup _ _ _ _ _ _ c.ask.ensures.asked _ c.args.self.now.at_rest _ c.args.self.now.region (λ z writes. writes);
  valid = valid _ _ c.ask.ensures.setup _ _ _ _ _ _ c.ask.ensures.asked c.args.self.now.valid;
}

pub invariant_of-self-in-Memory : goal.invariant_of-self-in-Memory
invariant_of-self-in-Memory g c = record {
  opened = c.ask.ensures.opened;
  at_rest = rest_less _ _ _ c.in-Some.slot
      (import_null _ _ _ _ _ _ _ _ _ c.ask.ensures.asked c.args.self.now.at_rest.running c.requires.shared.names c.in-Memory.is
      (c.args.self.now.at_rest.free c.in-Some.slot c.in-Some.ensures.free))
      (given _ _ c.ask.ensures.setup _ _ _ _ _ _ c.ask.ensures.asked _
      (rest_more _ _ c.args.self.now.taken c.in-Some.slot c.in-Some.ensures.low c.args.self.now.at_rest) c.in-Some.slot (λ z writes. writes)
      (get_or-set_same c.args.self.now.taken c.in-Some.slot true true c.in-Some.ensures.low));
  region = apart _ _ c.ask.ensures.setup _ _ _ _ _ _ c.ask.ensures.asked _ c.args.self.now.at_rest _ c.args.self.now.region (λ z writes. writes);
  valid = valid _ _ c.ask.ensures.setup _ _ _ _ _ _ c.ask.ensures.asked c.args.self.now.valid;
}

pub unreachable-requires : goal.unreachable-requires
unreachable-requires g c =
    import_lines _ _ _ _ _ _ _ _ _ c.ask.ensures.asked c.args.self.now.at_rest.running c.requires.shared.names c.in_default-ask.not-Node c.in_default-ask.not-Memory

pub returns-in-Node-clause-nodes : goal.returns-in-Node-clause-nodes
returns-in-Node-clause-nodes g c =
    imported_nodes _ _ _ _ _ _ _ _ _ c.ask.ensures.asked c.args.self.now.at_rest.running c.requires.shared.names _ c.in-Node.is

pub returns-in-Node-clause-node : goal.returns-in-Node-clause-node
returns-in-Node-clause-node g c =
    imported_node _ _ _ _ _ _ _ _ _ c.ask.ensures.asked c.args.self.now.at_rest.running c.requires.shared.names _ c.in-Node.is
