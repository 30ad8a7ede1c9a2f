mod Counted
use Rattle.std.proofs.Common.{◌≡◌, ◌+◌, ℕ, refl, true, false, List, [], All, length, sym, ap, ◌∙◌, subst, arith, rules, inl, inr, Some, None}
use Rattle.std.proofs.lemmas.Bool.{true≢false}
use mathlib.Core.Logic.{◌⊎◌}
use Rattle.gc_graph.specs.Lawful.{IsAllowed}
use Rattle.heap_cycle.specs.Views.{Ran, ran_of}
use Rattle.heap_cycle.specs.declared.parts.Parts.{Parts}
use Rattle.heap_cycle.specs.Owned.{IsToldLine, OwnedView}
use Rattle.gc_graph.specs.declared.line.Line.{Line}
use Rattle.heap_engine.specs.CarriedOut.{IsAsked, IsCarriedOut, IsCommandDone, IsOfJoin}
use Rattle.heap_cycle.specs.Printed.{outcome_lines}
use Rattle.heap_engine.specs.Ended.{last_line}
use Rattle.heap_engine.proofs.CommandsDone.{asked_of, carried_out, quiet}
use Rattle.heap_engine.proofs.TotalsTold.{joined_alone}
use Rattle.heap_engine.proofs.heap_core.Core.act.Given as given
use Rattle.heap_engine.proofs.heap_core.Core.act.Goals as goal
use Rattle.heap_engine.proofs.heap_core.Core.act.Goals.{After-count, After-count_command}
use Rattle.heap_engine.proofs.heap_core.Core.act.Answers.Counted as O

-- what the command asks
pub run-requires-clause-asked : goal.run-requires-clause-asked
run-requires-clause-asked d c κs live =
    asked_of c.self.inside c.begin-2.new.self c.begin.new.self c.self.invariant (rw (← c.self.view_is) at c.requires.opened) c.begin-2.ensures c.begin.ensures

-- it was carried out
done : (d : given.Over) (c : After-count_command d) → IsCarriedOut c.args.command.now (quiet c.self.inside.parts) c.run.new.parts c.begin.new.self c.run.new.outcome
done d c =
    carried_out c.args.command.now c.self.inside c.begin-2.new.self c.begin.new.self c.run.new.parts c.run.new.outcome c.steps_follow_the_history.ensures
    c.nodes_stay_put.ensures c.shape_is_valid.ensures.some (rw (← c.self.view_is) at c.requires.allowed) c.self.invariant
    (rw (← c.self.view_is) at c.requires.opened) c.begin-2.ensures c.begin.ensures c.run.ensures.done

pub run-requires-clause-numbered : goal.run-requires-clause-numbered
run-requires-clause-numbered d c κs live = rw (← c.self.view_is) at c.requires.numbered

not_none : (l : Line) → Some l ≡ None → ⊥
not_none l same = cc

pub count-requires : goal.count-requires
count-requires d c =
    let is = done d (goal.at.count-requires d c).After-count_command in
    record { ended = λ none. not_none (last_line c.run.new.outcome) (sym is.ended ∙ none) }

-- a join's outcome has one line, and otherwise no more are told before it
pub overflow_add-result : goal.overflow_add-result
overflow_add-result d c =
    let is = done d (goal.at.overflow_add-result d c).After-count_command in
    let told = ap (λ (p : Parts). length p.region.told) c.publish.ensures in
    elim is.region.joined [
      | inl none ↦ omega (arith, c.from.ensures, c.told_count.ensures.count, told, ap length none, c.count.type_inv)
      | inr join ↦
          omega (
            arith,
            c.from.ensures,
            c.told_count.ensures.count,
            c.told_count.ensures.small,
            c.count.ensures.count,
            ap length (joined_alone c.run.new.outcome (ran_of c.registered.result.now) join),
          )
    ]

pub publish-requires : goal.publish-requires
publish-requires d c =
    let at : After-count_command d = (goal.at.publish-requires d c).After-count_command in
    let is = done d at in
    record {
      counted = O.counts d at is;
      few = omega (arith, O.most d at is);
      made = (O.ready d at is).tied.made;
      later = O.later d at is;
    }

pub invariant_of-self : goal.invariant_of-self
invariant_of-self d c =
    let at : After-count_command d = (goal.at.invariant_of-self d c).After-count_command in
    let is = done d at in
    let now = c.publish.new.parts in
    record {
      ready = λ goes. O.ready_now d at is now c.publish.ensures;
      manned = λ goes. O.manned_now d at is now c.publish.ensures;
      region = λ goes. O.region_now d at is now c.publish.ensures;
      joined_at_last = λ closed. absurd (true≢false (sym closed ∙ O.opened d at is));
      most = O.most_now d at is now c.publish.ensures;
      made = (O.ready_now d at is now c.publish.ensures).tied.made;
      none_out = O.none_out_now d at is now c.publish.ensures;
      board = O.board_now d at is now c.publish.ensures;
      replies = subst (All IsToldLine) (sym (O.same_now d at is now c.publish.ensures)) is.region.replies;
      joined = subst (λ (told : List Line). (told ≡ []) ⊎ IsOfJoin c.run.new.outcome) (sym (O.same_now d at is now c.publish.ensures)) is.region.joined;
      counted = O.counts_now d at is now c.publish.ensures;
      told = O.told_now d at is now c.publish.ensures;
      untold = λ none. absurd (not_none (last_line c.run.new.outcome) (sym is.ended ∙ none));
      room = search rules;
    }

-- so many lines there are
counted_lines : (d : given.Over) (c : After-count d)
    → c.from.result + c.count.result ≡ length c.publish.new.parts.region.told + length (outcome_lines c.run.new.outcome c.publish.new.parts.cycle.ran)
counted_lines d c =
    omega (arith, c.from.ensures, c.told_count.ensures.count, c.count.ensures.count, ap (λ (r : Ran). length (outcome_lines c.run.new.outcome r)) c.registered.ensures)

pub returns : goal.returns
returns d c =
    let at : After-count_command d = (goal.at.returns d c).After-count_command in
    let lines = counted_lines d (goal.at.returns d c).After-count in
    record {
      acted = rw (← c.self.view_is) (O.acted d at (done d at) c.publish.new.parts c.publish.ensures (c.from.result + c.count.result) lines);
      told = omega (arith, c.count.ensures.some);
    }
