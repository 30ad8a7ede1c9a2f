-- A list of steps, one step longer.
use Rattle.std.proofs.Common.{◌≡◌, ℕ, ◌+◌, ◌<◌, List, [], ◌∷◌, ◌++◌, length, get_or, take, drop, Bool, true, false, cond, Option, Some, None, refl, sym, ap, ◌∙◌}
use Rattle.std.proofs.lemmas.Bool.{cond-true, cond-false}
use Rattle.std.proofs.lemmas.Option.{same_Some}
use Rattle.std.proofs.lemmas.List.{take_more, drop_more}
use Rattle.marker_core.specs.declared.states.CoreState.{CoreState}
use Rattle.marker_core.specs.declared.steps.CoreStep.{CoreStep}
use Rattle.marker_core.specs.Step.{is_allowed, changed, core_step, core_run, IsFirstRefused}

pub run_none : (s : CoreState) → core_run s [] ≡ Some s
unfolding core_run
run_none s = refl

goes_on : (b : Bool) (rest : Option CoreState) (t : CoreState) → cond b rest None ≡ Some t → (b ≡ true) × (rest ≡ Some t)
goes_on true rest t e = (refl, e)
goes_on false rest t e = cc

run_push : (s t : CoreState) (steps : List CoreStep) (step : CoreStep) → core_run s steps ≡ Some t → is_allowed t step ≡ true
    → core_run s (steps ++ step ∷ []) ≡ Some (changed t step)
unfolding core_run
run_push s t [] step e can =
    let same : s ≡ t = same_Some s t e in
    ap (λ (u : CoreState). cond (is_allowed u step) (Some (changed u step)) None) same ∙ cond-true (is_allowed t step) (Some (changed t step)) None can
run_push s t (first ∷ steps) step e can =
    let both = goes_on (is_allowed s first) (core_run (changed s first) steps) t e in
    cond-true (is_allowed s first) (core_run (changed s first) (steps ++ step ∷ [])) None both.0 ∙ run_push (changed s first) t steps step both.1 can

pub run_more : (s t u : CoreState) (steps : List CoreStep) (i : ℕ) (step : CoreStep) → i < length steps → step ≡ get_or steps i step
    → core_run s (take i steps) ≡ Some t → is_allowed t step ≡ true → u ≡ changed t step → core_run s (take (i + 1) steps) ≡ Some u
run_more s t u steps i step within is runs can change =
    ap (core_run s) (take_more steps i step within ∙ ap (λ x. take i steps ++ x ∷ []) (sym is)) ∙ run_push s t (take i steps) step runs can
    ∙ ap (λ x. Some x) (sym change)

pub first_refused : (s t : CoreState) (steps : List CoreStep) (i : ℕ) (step : CoreStep) → i < length steps → step ≡ get_or steps i step
    → core_run s (take i steps) ≡ Some t → is_allowed t step ≡ false → IsFirstRefused s steps i
unfolding core_step
first_refused s t steps i step within is runs refused = record {
  number = within;
  before = t;
  refused_step = step;
  runs = runs;
  stands = drop_more steps i step within ∙ ap (λ x. x ∷ drop (i + 1) steps) (sym is);
  refused = cond-false (is_allowed t step) (Some (changed t step)) None refused;
}

pub step_is : (s t : CoreState) (step : CoreStep) → is_allowed s step ≡ true → t ≡ changed s step → core_step s step ≡ Some t
unfolding core_step
step_is s t step can change = cond-true (is_allowed s step) (Some (changed s step)) None can ∙ ap (λ x. Some x) (sym change)
