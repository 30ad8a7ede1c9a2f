use Rattle.std.proofs.Common.{◌<◌, true, length, arith}
use Rattle.std.proofs.lemmas.List.{get_or-set_same}
use Rattle.oilpan.proofs.Commands.{read_makes_none, read_is_of_face}
use Rattle.oilpan.proofs.Keeping.{apart, given, valid}
use Rattle.oilpan.proofs.Resting.{rest_more, rest_less}
use Rattle.oilpan.proofs.FieldReads.{reads_apart, reads_one, null_unread}
use Rattle.oilpan.proofs.heap.Oilpan.read_into.Goals as goal

pub ask-requires-clause-numbered : goal.ask-requires-clause-numbered
ask-requires-clause-numbered g c κs live p t e same = absurd (read_makes_none c.args.slot _ c.requires.into p t e same)

pub ask-requires-clause-face : goal.ask-requires-clause-face
ask-requires-clause-face g c κs live = read_is_of_face c.args.slot _ c.requires.into

pub invariant_of-self : goal.invariant_of-self
invariant_of-self g c =
    let room : c.args.slot < length c.args.self.now.taken = omega (arith, c.requires.slot) in
    record {
      opened = c.ask.ensures.opened;
      at_rest = given _ _ c.ask.ensures.setup _ _ _ _ _ _ c.ask.ensures.asked _
          (rest_more _ _ c.args.self.now.taken c.args.slot room c.args.self.now.at_rest) c.args.slot (reads_one _ _ c.requires.into)
          (get_or-set_same c.args.self.now.taken c.args.slot true true room);
      region = apart _ _ c.ask.ensures.setup _ _ _ _ _ _ c.ask.ensures.asked _ c.args.self.now.at_rest _ c.args.self.now.region (reads_apart _ _ c.requires.into);
      valid = valid _ _ c.ask.ensures.setup _ _ _ _ _ _ c.ask.ensures.asked c.args.self.now.valid;
    }

pub invariant_of-self-in-Null : goal.invariant_of-self-in-Null
invariant_of-self-in-Null g c =
    let room : c.args.slot < length c.args.self.now.taken = omega (arith, c.requires.slot) in
    let low : c.args.slot < length c.args.self.now.heap.core.state.slots = omega (arith, c.requires.slot, c.args.self.now.at_rest.slots) in
    record {
      opened = c.ask.ensures.opened;
      at_rest = rest_less _ _ _ c.args.slot
          (null_unread c.args.self.now.heap.core.setup c.args.self.now.heap.core.state c.ask.new.heap.core.state c.ask.new.heap.core.piece c.ask.new.heap.core.lines
          c.args.slot low c.args.command.now c.requires.into c.requires.object (c.args.self.now.at_rest.free c.args.slot c.requires.free) c.ask.result
          c.ask.ensures.asked.means (λ n e. let no : ⊥ = cc in absurd no))
          (given _ _ c.ask.ensures.setup _ _ _ _ _ _ c.ask.ensures.asked _
          (rest_more _ _ c.args.self.now.taken c.args.slot room c.args.self.now.at_rest) c.args.slot (reads_one _ _ c.requires.into)
          (get_or-set_same c.args.self.now.taken c.args.slot true true room));
      region = apart _ _ c.ask.ensures.setup _ _ _ _ _ _ c.ask.ensures.asked _ c.args.self.now.at_rest _ c.args.self.now.region (reads_apart _ _ c.requires.into);
      valid = valid _ _ c.ask.ensures.setup _ _ _ _ _ _ c.ask.ensures.asked c.args.self.now.valid;
    }

pub invariant_of-self-in_default : goal.invariant_of-self-in_default
invariant_of-self-in_default g c =
    let room : c.args.slot < length c.args.self.now.taken = omega (arith, c.requires.slot) in
    let low : c.args.slot < length c.args.self.now.heap.core.state.slots = omega (arith, c.requires.slot, c.args.self.now.at_rest.slots) in
    record {
      opened = c.ask.ensures.opened;
      at_rest = rest_less _ _ _ c.args.slot
          (null_unread c.args.self.now.heap.core.setup c.args.self.now.heap.core.state c.ask.new.heap.core.state c.ask.new.heap.core.piece c.ask.new.heap.core.lines
          c.args.slot low c.args.command.now c.requires.into c.requires.object (c.args.self.now.at_rest.free c.args.slot c.requires.free) c.ask.result
          c.ask.ensures.asked.means c.in_default.not-Node)
          (given _ _ c.ask.ensures.setup _ _ _ _ _ _ c.ask.ensures.asked _
          (rest_more _ _ c.args.self.now.taken c.args.slot room c.args.self.now.at_rest) c.args.slot (reads_one _ _ c.requires.into)
          (get_or-set_same c.args.self.now.taken c.args.slot true true room));
      region = apart _ _ c.ask.ensures.setup _ _ _ _ _ _ c.ask.ensures.asked _ c.args.self.now.at_rest _ c.args.self.now.region (reads_apart _ _ c.requires.into);
      valid = valid _ _ c.ask.ensures.setup _ _ _ _ _ _ c.ask.ensures.asked c.args.self.now.valid;
    }
