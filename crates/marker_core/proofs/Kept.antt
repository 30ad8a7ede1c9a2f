-- Each kind of step, and each list of steps, keeps what is true of every state.
use Rattle.std.proofs.Common.{◌≡◌, [], ◌∷◌, Bool, true, false, cond, Option, Some, None, refl, sym, ◌∙◌, subst, inl, inr}
use Rattle.std.proofs.lemmas.Bool.{cases_Bool, cond-true, cond-false}
use Rattle.std.proofs.lemmas.Option.{cond_some, same_Some}
use Rattle.gc_graph.specs.Reach.{ReachIsLeast}
use Rattle.marker_core.specs.declared.states.CoreState.{CoreState}
use Rattle.marker_core.specs.declared.states.Why.TheVariants.{Read, Weak, Trace}
use Rattle.marker_core.specs.declared.steps.CoreStep.{CoreStep}
use Rattle.marker_core.specs.declared.steps.CoreStep.TheVariants.{Load, Fill, Store, Publish, Retract, Mark, Header, Stop, Split, Join, Bit, Look, Claim, Field, MarkerMark, Poll}
use Rattle.marker_core.specs.CycleSteps.{ends, can_end, core_ended, core_stopped}
use Rattle.marker_core.specs.Step.{is_allowed, changed, core_step, core_run}
use Rattle.marker_core.specs.Core.{IsCoreOk}
use Rattle.marker_core.specs.Laws.{StepsKeep, RunsKeep}
use Rattle.marker_core.proofs.Loads.{read_ok, weak_ok}
use Rattle.marker_core.proofs.Traces.{trace_ok}
use Rattle.marker_core.proofs.Fills.{fill_ok}
use Rattle.marker_core.proofs.Stores.{store_ok}
use Rattle.marker_core.proofs.Publishes.{publish_ok}
use Rattle.marker_core.proofs.Retracts.{retract_ok}
use Rattle.marker_core.proofs.Marked.{mark_ok}
use Rattle.marker_core.proofs.Claimed.{claim_ok}
use Rattle.marker_core.proofs.Unmarks.{unmark_ok}
use Rattle.marker_core.proofs.Stops.{begin_ok, stopped_ok, end_ok}
use Rattle.marker_core.proofs.Lends.{split_ok, join_ok}
use Rattle.marker_core.proofs.Polls.{bit_ok, poll_ok}
use Rattle.marker_core.proofs.Looks.{look_ok, field_ok}
use Rattle.marker_core.proofs.MarkerClaims.{claim_as_ok}
use Rattle.marker_core.proofs.MarkerMarks.{mark_as_ok}

stop_ok : (s : CoreState) → IsCoreOk s → cond (ends s) (can_end s) true ≡ true → IsCoreOk (cond (ends s) (core_ended s) (core_stopped s))
stop_ok s ok can = elim (cases_Bool (ends s)) [
  | inl ending ↦
      subst IsCoreOk (sym (cond-true (ends s) (core_ended s) (core_stopped s) ending))
      (end_ok s ok ending (sym (cond-true (ends s) (can_end s) true ending) ∙ can))
  | inr goes_on ↦ subst IsCoreOk (sym (cond-false (ends s) (core_ended s) (core_stopped s) goes_on)) (stopped_ok s ok)
]

pub allowed_ok : ReachIsLeast → (s : CoreState) → IsCoreOk s → (step : CoreStep) → is_allowed s step ≡ true → IsCoreOk (changed s step)
allowed_ok law s ok (Load a Read) can = read_ok s ok a
allowed_ok law s ok (Load a Weak) can = weak_ok s ok law a
allowed_ok law s ok (Load a Trace) can = trace_ok s ok a can
allowed_ok law s ok (Fill a w) can = fill_ok s ok a w can
allowed_ok law s ok (Store a w) can = store_ok s ok a w can
allowed_ok law s ok (Publish a) can = publish_ok s ok a can
allowed_ok law s ok (Retract a) can = retract_ok s ok a can
allowed_ok law s ok (Mark a) can = mark_ok s ok a can
allowed_ok law s ok (Header a true) can = claim_ok s ok a can
allowed_ok law s ok (Header a false) can = unmark_ok s ok a can
allowed_ok law s ok (Stop false roots) can = begin_ok law s ok roots can
allowed_ok law s ok (Stop true roots) can = stop_ok s ok can
allowed_ok law s ok Split can = split_ok s ok can
allowed_ok law s ok (Join k) can = join_ok s ok k can
allowed_ok law s ok (Bit k a) can = bit_ok s ok k a can
allowed_ok law s ok (Look k a) can = look_ok s ok k a can
allowed_ok law s ok (Claim k a header) can = claim_as_ok s ok k a header can
allowed_ok law s ok (Field k a) can = field_ok s ok k a can
allowed_ok law s ok (MarkerMark k a) can = mark_as_ok s ok k a can
allowed_ok law s ok (Poll k) can = poll_ok s ok k can

pub steps_keep : ReachIsLeast → StepsKeep
unfolding core_step
steps_keep law s t step ok e =
    let both = cond_some (is_allowed s step) (changed s step) t e in subst IsCoreOk both.1 (allowed_ok law s ok step both.0)

run_goes_on : (b : Bool) (rest : Option CoreState) (t : CoreState) → cond b rest None ≡ Some t → (b ≡ true) × (rest ≡ Some t)
run_goes_on true rest t e = (refl, e)
run_goes_on false rest t e = cc

pub runs_keep : ReachIsLeast → RunsKeep
unfolding core_run
runs_keep law s t [] ok e = subst IsCoreOk (same_Some s t e) ok
runs_keep law s t (step ∷ steps) ok e =
    let both = run_goes_on (is_allowed s step) (core_run (changed s step) steps) t e in
    runs_keep law (changed s step) t steps (allowed_ok law s ok step both.0) both.1
