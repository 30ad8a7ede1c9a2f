use Rattle.std.proofs.Common.{rules, ◌≡◌, ℕ, true, List, [], ◌∷◌, refl, sym, ap, ◌∙◌, subst, arith}
use Rattle.gc_graph.specs.declared.phase.Phase.TheVariants.{Sweeping}
use Rattle.gc_graph.specs.CycleSteps.{is_marking, is_stack_refused}
use Rattle.heap_roots.specs.Objects.{refused_of, refusals_told_of}
use Rattle.heap_roots.specs.Refused.{IsToldTruly}
use Rattle.heap_roots.specs.Stack.{StackView}
use Rattle.heap_cycle.specs.declared.parts.Parts.{Parts}
use Rattle.heap_cycle.specs.Cycles.{pause_line}
use Rattle.heap_cycle.specs.KeptRoots.{marking_of}
use Rattle.heap_cycle.specs.Parts.{setup_of, state_of, counted, IsReady}
use Rattle.heap_cycle.specs.Printed.{ran_lines}
use Rattle.heap_cycle.specs.Ties.{manned_calm, none_runs, tied_counted}
use Rattle.heap_cycle.specs.Views.{Ran, ran_of}
use Rattle.heap_cycle.specs.Walks.{IsWalkTold, refused_before}
use Rattle.heap_cycle.proofs.CollectSteps.{pause_told, phase_marks, step_finished}
use Rattle.heap_cycle.proofs.collections.finish.Goals as goal

-- where the heap has no markers none runs
no_crew : (s : Parts) → IsReady s → is_marking s.cycle.phase ≡ true → (setup_of s).markers ≡ 0 → s.objects.grey.running ≡ []
no_crew s ready marks none = none_runs s.cycle.rest.may s.objects (marking_of s ready (phase_marks s.cycle.phase marks)) none

pub returns-clause-step : goal.returns-clause-step
returns-clause-step g c =
    let s : Parts = c.args.parts.now in
    let new : Parts = c.pause-result.new.parts in
    let ran : Ran = new.cycle.ran in
    let marks : is_marking s.cycle.phase ≡ true = search rules in
    let paused = c.pause-result.ensures.paused (setup_of s).markers (no_crew s c.requires.ready marks) in
    step_finished (setup_of s) c.args.want (state_of s) (state_of new) _ _ (pause_line c.pause-result.result ∷ ran_lines true ran) marks
    (ap (λ (x : StackView). is_stack_refused c.args.want x.words) (sym c.stack.ensures) ∙ sym c.refuses.ensures ∙ c.if-refuses.false) paused.pause
    (pause_told c.call_back.new.self _ _ c.args.outcome.now.numbers [] (ran_of c.registered.result.now) ran c.pause-result.result c.line_of.result c.requires.numbers c.call_back.ensures
    c.registered.ensures c.line_of.ensures)

pub returns-clause-frame : goal.returns-clause-frame
returns-clause-frame g c =
    let s : Parts = c.args.parts.now in
    let new : Parts = c.pause-result.new.parts in
    let marks : is_marking s.cycle.phase ≡ true = search rules in
    let paused = c.pause-result.ensures.paused (setup_of s).markers (no_crew s c.requires.ready marks) in
    record {
      setup = paused.setup;
      ordinal = omega (arith, paused.ordinal);
      tied = tied_counted new paused.tied;
      manned = λ manned. manned_calm (counted new) Sweeping paused.phase refl;
      refused = subst (IsWalkTold s.cycle.phase (refusals_told_of s.objects) (refusals_told_of new.objects)) (sym c.line_of.ensures)
          (subst (λ phase. IsToldTruly (refused_before phase (refusals_told_of s.objects)) (refused_of new.objects) c.pause-result.result.pause.walked)
          (sym (phase_marks s.cycle.phase marks)) paused.walked);
    }

pub returns-clause-region : goal.returns-clause-region
returns-clause-region g c =
    let s : Parts = c.args.parts.now in
    let marks : is_marking s.cycle.phase ≡ true = search rules in
    let paused = c.pause-result.ensures.paused (setup_of s).markers (no_crew s c.requires.ready marks) in
    paused.region

pub returns-clause-grown : goal.returns-clause-grown
returns-clause-grown g c =
    let s : Parts = c.args.parts.now in
    let marks : is_marking s.cycle.phase ≡ true = search rules in
    let paused = c.pause-result.ensures.paused (setup_of s).markers (no_crew s c.requires.ready marks) in
    paused.grown
