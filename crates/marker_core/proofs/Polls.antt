-- A start bit or the stop word is read by a marker: what is true of every state stays.
use Rattle.std.proofs.Common.{◌≡◌, ℕ, List, [], ◌∷◌, ◌++◌, get_or, set, Bool, true, false, not, cond, ◌||◌, eqb, ltb, refl, sym, ap, ◌∙◌, inl, inr, arith}
use Rattle.std.proofs.lemmas.Bool.{and_parts, not-true, or_cases, eqb-true, ltb-true}
use Rattle.marker_core.specs.declared.states.CoreState.{CoreState}
use Rattle.marker_core.specs.declared.states.MarkerView.{MarkerView}
use Rattle.marker_core.specs.Layout.{is_start, stop_at}
use Rattle.marker_core.specs.Bodies.{is_place, holds}
use Rattle.marker_core.specs.MarkerSteps.{can_read_bit, bit_read, can_poll, polled, with_marker_view}
use Rattle.marker_core.specs.Views.{times, marks_at, traces_at, IsHand, IsNoted, view_at}
use Rattle.marker_core.specs.Core.{IsCoreOk}
use Rattle.marker_core.proofs.Members.{held_after}
use Rattle.marker_core.proofs.Tricolour.{strong_same, pairs_same}
use Rattle.marker_core.proofs.Retold.{retold_ok, is_view, is_on, sum_after, still_noted, noted_again, quiet_after, known_after, done_after, hand_goes, hand_comes}

-- a view that differs in what it knows, missed and was told alone
pub same_lists_ok : (s : CoreState) → IsCoreOk s → (k : ℕ) → (view_at s.markers k).spent ≡ false → (known missed : List ℕ) (halted : Bool)
    → ((a : ℕ) → holds known a ≡ true → is_place s.mutator.bodies a ≡ true) → (halted ≡ true → get_or s.words (stop_at s.count) 0 ≡ 1)
    → IsCoreOk (with_marker_view s k (record (view_at s.markers k) { known = known; missed = missed; halted = halted }))
same_lists_ok s ok k out known missed halted knows halts =
    let view = view_at s.markers k in
    let now : MarkerView = record view { known = known; missed = missed; halted = halted } in
    let views = set s.markers k now in
    let on = is_on s ok k out in
    let goes = hand_goes s ok k out now s.mutator refl refl in
    let comes = hand_comes s ok k out now s.mutator refl refl in
    let may = ok.may_is_closed on in
    let marks = marks_at s.mutator s.markers in
    let traces = traces_at s.mutator s.markers in
    retold_ok s ok on s.mutator.marked s.mutator.traced s.mutator.noted s.mutator.done s.mutator.missed s.mutator.lent views
    (record {
      marks_same = λ x. let sums = sum_after s ok k out now (λ v. times x v.marked) in omega (arith, sums);
      traces_same = λ x. let sums = sum_after s ok k out now (λ v. times x v.traced) in omega (arith, sums);
      strong =
          strong_same s.types s.mutator.bodies marks traces s.mutator.pending (IsHand s.mutator s.markers) (IsHand s.mutator views) goes
          (ok.strong_targets_accounted on);
      pairs =
          pairs_same s.types s.mutator.bodies marks traces s.mutator.pending (IsHand s.mutator s.markers) (IsHand s.mutator views) goes
          (IsNoted s.mutator s.markers) (IsNoted s.mutator views)
          (still_noted s ok k out now s.mutator (λ p h. h) (λ p h. h)) (ok.pairs_accounted on);
      noted = noted_again s ok k out now refl;
      known = known_after s ok k out now knows;
      fits = λ h is. ok.hands_are_bodies.hands h (comes h is);
      hands_in = λ h is. may.hands_in h (comes h is);
      loaded_in = λ h t is loaded. may.loaded_in h t (comes h is) loaded;
      done = done_after s ok k out now (λ a held. may.done_are_traced a (inr (view, is_view s ok k out, held)));
      quiet = quiet_after s ok k out now s.mutator.hand out halts;
    })

pub bit_ok : (s : CoreState) → IsCoreOk s → (k a : ℕ) → can_read_bit s k a ≡ true → IsCoreOk (bit_read s k a)
bit_ok s ok k a can =
    let view = view_at s.markers k in
    let tests = and_parts (not view.spent) (ltb a s.count) can in
    let out = not-true view.spent tests.0 in
    let set_bit = is_start s.count s.words a in
    same_lists_ok s ok k out (cond set_bit (view.known ++ a ∷ []) view.known) (cond set_bit view.missed (view.missed ++ a ∷ [])) view.halted
    (λ x held. elim (held_after set_bit view.known a x held) [
      | inl old ↦ ok.hands_are_bodies.known view x (is_view s ok k out) old
      | inr new ↦ ap (is_place s.mutator.bodies) new.1 ∙ sym (ok.starts_match a (ltb-true a s.count tests.1)) ∙ new.0
    ])
    (λ halted. ok.quiet_while_off.halted_views view (is_view s ok k out) halted)

pub poll_ok : (s : CoreState) → IsCoreOk s → (k : ℕ) → can_poll s k ≡ true → IsCoreOk (polled s k)
poll_ok s ok k can =
    let view = view_at s.markers k in
    let out = not-true view.spent can in
    let stop = get_or s.words (stop_at s.count) 0 in
    same_lists_ok s ok k out view.known view.missed (view.halted || eqb stop 1)
    (λ x held. ok.hands_are_bodies.known view x (is_view s ok k out) held)
    (λ halted. elim (or_cases view.halted (eqb stop 1) halted) [
      | inl was ↦ ok.quiet_while_off.halted_views view (is_view s ok k out) was
      | inr now ↦ eqb-true stop 1 now
    ])
