use Rattle.std.proofs.Common.{◌≡◌, ℕ, true, false, List, ◌∷◌, refl, sym, ap, ◌∙◌, subst, arith}
use Rattle.gc_graph.specs.declared.phase.Phase.TheVariants.{Sweeping}
use Rattle.gc_graph.specs.CycleSteps.{IsPause, is_marking, is_stack_refused}
use Rattle.gc_graph.specs.State.{Setup}
use Rattle.heap_roots.specs.Objects.{refused_of, refusals_told_of}
use Rattle.heap_roots.specs.Owned.{piece_of}
use Rattle.heap_roots.specs.Refused.{IsToldTruly}
use Rattle.heap_roots.specs.Stack.{StackView}
use Rattle.heap_cycle.specs.declared.parts.Parts.{Parts}
use Rattle.heap_cycle.specs.Cycles.{pause_line}
use Rattle.heap_cycle.specs.Parts.{setup_of, state_of, counted}
use Rattle.heap_cycle.specs.Printed.{ran_lines}
use Rattle.heap_cycle.specs.Ties.{manned_calm, tied_counted}
use Rattle.heap_cycle.specs.Views.{Ran, ran_of}
use Rattle.heap_cycle.specs.Walks.{IsWalkTold, refused_before}
use Rattle.heap_cycle.proofs.CollectSteps.{before_calm, pause_told, step_collected}
use Rattle.heap_cycle.proofs.Pieces.{piece_both, takes_both}
use Rattle.heap_cycle.proofs.collections.collect.Goals as goal

pub returns-clause-step : goal.returns-clause-step
returns-clause-step g c =
    let s : Parts = c.args.parts.now in
    let mid : Parts = c.begin.new.parts in
    let new : Parts = c.pause-result.new.parts in
    let ran : Ran = new.cycle.ran in
    let numbers : List ℕ = c.begin.new.finalised.items in
    let begun = c.in-Ok.ensures.begun in
    let paused = c.pause-result.ensures.paused 0 (λ none. c.in-Ok.ensures.begun.home) in
    let second = piece_of mid.region new.region in
    let told = pause_line c.pause-result.result ∷ ran_lines true ran in
    step_collected (setup_of s) c.args.want (state_of s) begun.swept (state_of mid) (state_of new) numbers
    (piece_of s.region new.region) (piece_of s.region mid.region) second _ told
    (sym c.is_marking-marks.ensures ∙ c.if-marks.false)
    (ap (λ (x : StackView). is_stack_refused c.args.want x.words) (sym c.stack.ensures) ∙ sym c.refuses.ensures ∙ c.if-refuses.false)
    begun.ended begun.start
    (subst (λ (st : Setup). IsPause st 0 c.args.want (state_of mid) second told (state_of new)) begun.setup paused.pause)
    (piece_both s.region mid.region new.region begun.grown paused.grown)
    (pause_told c.call_back.new.self _ _ numbers numbers (ran_of c.registered.result.now) ran c.pause-result.result c.line_of.result refl
    c.call_back.ensures c.registered.ensures c.line_of.ensures)

pub returns-clause-frame : goal.returns-clause-frame
returns-clause-frame g c =
    let s : Parts = c.args.parts.now in
    let new : Parts = c.pause-result.new.parts in
    let begun = c.in-Ok.ensures.begun in
    let paused = c.pause-result.ensures.paused 0 (λ none. begun.home) in
    let calm : is_marking s.cycle.phase ≡ false = sym c.is_marking-marks.ensures ∙ c.if-marks.false in
    let truly : IsToldTruly (refused_before s.cycle.phase (refusals_told_of s.objects)) (refused_of new.objects) c.pause-result.result.pause.walked =
    subst (λ since. IsToldTruly since (refused_of new.objects) c.pause-result.result.pause.walked)
    (begun.since ∙ sym (before_calm s.cycle.phase (refusals_told_of s.objects) calm)) paused.walked in
    record {
      setup = paused.setup ∙ begun.setup;
      ordinal = omega (arith, paused.ordinal, begun.ordinal);
      tied = tied_counted new paused.tied;
      manned = λ manned. manned_calm (counted new) Sweeping paused.phase refl;
      refused = subst (IsWalkTold s.cycle.phase (refusals_told_of s.objects) (refusals_told_of new.objects)) (sym c.line_of.ensures) truly;
    }

pub returns-clause-region : goal.returns-clause-region
returns-clause-region g c =
    let paused = c.pause-result.ensures.paused 0 (λ none. c.in-Ok.ensures.begun.home) in
    paused.region

pub returns-clause-grown : goal.returns-clause-grown
returns-clause-grown g c =
    let begun = c.in-Ok.ensures.begun in
    let paused = c.pause-result.ensures.paused 0 (λ none. begun.home) in
    takes_both c.args.parts.now.region c.begin.new.parts.region c.pause-result.new.parts.region begun.grown paused.grown
