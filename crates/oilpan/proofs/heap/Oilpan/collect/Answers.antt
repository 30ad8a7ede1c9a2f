use Rattle.std.proofs.Common.{◌≡◌, [], ap, ◌∙◌}
use Rattle.gc_graph.specs.State.{State}
use Rattle.oilpan.proofs.Cycling.{was_marking, left, collected, sweeps, exact, finish_sweeps}
use Rattle.oilpan.proofs.Frames.{watch}
use Rattle.oilpan.proofs.Keeping.{apart, still, valid}
use Rattle.oilpan.proofs.heap.Oilpan.collect.Goals as goal

pub invariant_of-self : goal.invariant_of-self
invariant_of-self g c = record {
  opened = c.ask.ensures.opened;
  at_rest = still _ _ c.ask.ensures.setup _ _ _ _ _ _ c.ask.ensures.asked _ c.args.self.now.at_rest (λ z writes. writes);
  region = apart _ _ c.ask.ensures.setup _ _ _ _ _ _ c.ask.ensures.asked _ c.args.self.now.at_rest _ c.args.self.now.region (λ z writes. writes);
  valid = valid _ _ c.ask.ensures.setup _ _ _ _ _ _ c.ask.ensures.asked c.args.self.now.valid;
}

pub invariant_of-self-in-Refused : goal.invariant_of-self-in-Refused
invariant_of-self-in-Refused g c = record {
  opened = c.ask-line.ensures.opened;
  at_rest = still _ _ c.ask-line.ensures.setup _ _ _ _ _ _ c.ask-line.ensures.asked _
      (still _ _ c.ask.ensures.setup _ _ _ _ _ _ c.ask.ensures.asked _ c.args.self.now.at_rest (λ z writes. writes)) (λ z writes. writes);
  region = apart _ _ c.ask-line.ensures.setup _ _ _ _ _ _ c.ask-line.ensures.asked _
      (still _ _ c.ask.ensures.setup _ _ _ _ _ _ c.ask.ensures.asked _ c.args.self.now.at_rest (λ z writes. writes)) _
      (apart _ _ c.ask.ensures.setup _ _ _ _ _ _ c.ask.ensures.asked _ c.args.self.now.at_rest _ c.args.self.now.region (λ z writes. writes))
      (λ z writes. writes);
  valid = valid _ _ c.ask-line.ensures.setup _ _ _ _ _ _ c.ask-line.ensures.asked
      (valid _ _ c.ask.ensures.setup _ _ _ _ _ _ c.ask.ensures.asked c.args.self.now.valid);
}

pub invariant_of-self-in_default : goal.invariant_of-self-in_default
invariant_of-self-in_default g c = record {
  opened = c.ask.ensures.opened;
  at_rest = still _ _ c.ask.ensures.setup _ _ _ _ _ _ c.ask.ensures.asked _ c.args.self.now.at_rest (λ z writes. writes);
  region = apart _ _ c.ask.ensures.setup _ _ _ _ _ _ c.ask.ensures.asked _ c.args.self.now.at_rest _ c.args.self.now.region (λ z writes. writes);
  valid = valid _ _ c.ask.ensures.setup _ _ _ _ _ _ c.ask.ensures.asked c.args.self.now.valid;
}

pub returns-in-Refused-clause-phase : goal.returns-in-Refused-clause-phase
returns-in-Refused-clause-phase g c =
    let none : c.args.self.now.heap.core.state.stack ≡ [] = c.args.self.now.at_rest.stack in
    let same = left _ _ _ _ _ _ c.ask.ensures.asked none _ c.in-Refused.is in
    let marking = was_marking _ _ _ _ _ _ c.ask.ensures.asked none _ c.in-Refused.is in
    finish_sweeps _ _ _ _ _ _ c.ask-line.ensures.asked (ap (λ (s : State). s.stack) same ∙ none) (ap (λ (s : State). s.phase) same ∙ marking)

pub returns-in-Refused-clause-exact : goal.returns-in-Refused-clause-exact
returns-in-Refused-clause-exact g c =
    λ phase. absurd (phase (was_marking _ _ _ _ _ _ c.ask.ensures.asked c.args.self.now.at_rest.stack _ c.in-Refused.is))

pub returns-in-Refused-clause-watches : goal.returns-in-Refused-clause-watches
returns-in-Refused-clause-watches g c o h =
    watch _ _ _ _ _ _ _ c.ask-line.ensures.asked (valid _ _ c.ask.ensures.setup _ _ _ _ _ _ c.ask.ensures.asked c.args.self.now.valid) _ (λ w p e. cc) o
    (watch _ _ _ _ _ _ _ c.ask.ensures.asked c.args.self.now.valid _ (λ w p e. cc) o h)

pub returns-in_default-clause-phase : goal.returns-in_default-clause-phase
returns-in_default-clause-phase g c =
    let none = c.args.self.now.at_rest.stack in
    sweeps _ _ _ _ _ _ c.ask.ensures.asked none (collected _ _ _ _ _ _ c.ask.ensures.asked none c.in_default.not-Memory c.in_default.not-Refused)

pub returns-in_default-clause-exact : goal.returns-in_default-clause-exact
returns-in_default-clause-exact g c =
    let none = c.args.self.now.at_rest.stack in
    exact _ _ _ _ _ _ c.ask.ensures.asked none c.precise_collection_is_exact.ensures c.args.self.now.valid c.args.self.now.at_rest.running
    (collected _ _ _ _ _ _ c.ask.ensures.asked none c.in_default.not-Memory c.in_default.not-Refused)

pub returns-in_default-clause-watches : goal.returns-in_default-clause-watches
returns-in_default-clause-watches g c = watch _ _ _ _ _ _ _ c.ask.ensures.asked c.args.self.now.valid _ (λ w p e. cc)

pub ask-requires-clause-numbered : goal.ask-requires-clause-numbered
ask-requires-clause-numbered g c κs live p t e same = (let no : ⊥ = cc in absurd no)

pub ask-line-requires-clause-numbered : goal.ask-line-requires-clause-numbered
ask-line-requires-clause-numbered g c κs live p t e same = (let no : ⊥ = cc in absurd no)
