-- A marker claims an object by the header that it read last: what is true of every state stays.
use Rattle.std.proofs.Common.{◌≡◌, ℕ, ◌<◌, List, [], ◌∷◌, ◌++◌, get_or, set, true, false, not, cond, ◌&&◌, eqb, ltb, None, refl, sym, ap, ◌∙◌, subst, inl, inr, arith}
use mathlib.Core.Path.{fun_ext}
use Rattle.std.specs.Option.{is_none}
use Rattle.std.proofs.lemmas.Bool.{cases_Bool, cond-true, cond-false, and_parts, not-true, eqb-true}
use Rattle.object_headers.specs.Layout.{word_with_traced}
use Rattle.marker_core.specs.declared.states.CoreState.{CoreState}
use Rattle.marker_core.specs.declared.states.MarkerView.{MarkerView}
use Rattle.marker_core.specs.Layout.{has_mark, has_traced, is_traced}
use Rattle.marker_core.specs.Bodies.{is_place, holds}
use Rattle.marker_core.specs.Hands.{hand_claimed}
use Rattle.marker_core.specs.SeatSteps.{is_grey}
use Rattle.marker_core.specs.MarkerSteps.{can_claim_as, core_claimed_as, is_last, with_marker_view}
use Rattle.marker_core.specs.Views.{times, marks_at, traces_at, IsHand, IsNoted, view_at}
use Rattle.marker_core.specs.Core.{IsCoreOk}
use Rattle.marker_core.proofs.Members.{held_after}
use Rattle.marker_core.proofs.Apart.{body_of_place}
use Rattle.marker_core.proofs.Counts.{times_push_same, times_push_other, false_is_none}
use Rattle.marker_core.proofs.Headers.{traced_tells}
use Rattle.marker_core.proofs.Loads.{found_traced}
use Rattle.marker_core.proofs.Tricolour.{HandChanges, marker_changes, pairs_same}
use Rattle.marker_core.proofs.Claims.{is_none_tells, claimed_words, claimed_traced, still_traced, strong_claimed, pairs_claimed, fits_claimed, hands_in_claimed, loaded_in_claimed}
use Rattle.marker_core.proofs.Retold.{rewritten_ok, is_there, is_view, is_on, sum_after, still_noted, noted_again, quiet_after, known_after, done_after}
use Rattle.marker_core.proofs.Looks.{known_is_out, same_hand_ok}

module _ (s : CoreState) (ok : IsCoreOk s) (k a : ℕ) (known : holds (view_at s.markers k).known a ≡ true) (none : (view_at s.markers k).hand ≡ None) where
  abbrev view : MarkerView
  view = view_at s.markers k

  abbrev found : ℕ
  found = get_or s.words a 0

  abbrev out : view.spent ≡ false
  out = known_is_out s ok k a known

  abbrev traces : ℕ → ℕ
  traces = traces_at s.mutator s.markers

  place : is_place s.mutator.bodies a ≡ true
  place = ok.hands_are_bodies.known view a (is_view s ok k out) known

  -- ---- the header is another one now

  abbrev refused : MarkerView
  refused = record view {
    done = cond (has_traced found) (view.done ++ a ∷ []) view.done;
    missed = cond (has_traced found) view.missed (view.missed ++ a ∷ []);
  }

  not_claimed : IsCoreOk (with_marker_view s k refused)
  not_claimed =
      same_hand_ok s ok k out refused
      (record {
        marked = refl;
        traced = refl;
        out = out;
        halts = λ halted. ok.quiet_while_off.halted_views view (is_view s ok k out) halted;
        notes = λ p h. h;
        pairs = noted_again s ok k out refused refl;
        knows = λ x held. ok.hands_are_bodies.known view x (is_view s ok k out) held;
        does = λ x held. elim (held_after (has_traced found) view.done a x held) [
          | inl old ↦ (ok.may_is_closed (is_on s ok k out)).done_are_traced x (inr (view, is_view s ok k out, old))
          | inr new ↦ subst (λ y. 0 < traces y) (sym new.1) (found_traced s ok a place new.0)
        ];
      })
      refl

  -- ---- the header is the one that was read

  module _ (grey : is_grey found ≡ true) where
    abbrev taken : MarkerView
    taken = record view { traced = view.traced ++ a ∷ []; hand = hand_claimed s.types a found }

    abbrev views : List MarkerView
    views = set s.markers k taken

    abbrev now : ℕ → ℕ
    now = traces_at s.mutator views

    untraced : traces a ≡ 0
    untraced =
        let bit = not-true (has_traced found) (and_parts (has_mark found) (not (has_traced found)) grey).1 in
        let at = body_of_place s.mutator.bodies a place in
        let tells = traced_tells s.words (marks_at s.mutator s.markers) traces s.mutator.bodies ok.headers_match at.0 at.1 in
        let none_here : ltb 0 (traces at.0.place) ≡ false = sym tells ∙ ap (is_traced s.words) at.2 ∙ bit in
        ap traces (sym at.2) ∙ false_is_none (traces at.0.place) none_here

    now_own : now a ≡ 1
    now_own =
        let sums = sum_after s ok k out taken (λ v. times a v.traced) in
        omega (arith, sums, times_push_same a view.traced, untraced)

    now_other : (x : ℕ) → (x ≡ a → ⊥) → now x ≡ traces x
    now_other x apart =
        let sums = sum_after s ok k out taken (λ v. times x v.traced) in
        omega (arith, sums, times_push_other a x view.traced apart)

    same_marks : (x : ℕ) → marks_at s.mutator s.markers x ≡ marks_at s.mutator views x
    same_marks x = let sums = sum_after s ok k out taken (λ v. times x v.marked) in omega (arith, sums)

    changes : HandChanges (IsHand s.mutator s.markers) (IsHand s.mutator views) None (hand_claimed s.types a found)
    changes =
        subst (λ gone. HandChanges (IsHand s.mutator s.markers) (IsHand s.mutator views) gone (hand_claimed s.types a found)) none
        (marker_changes s.mutator s.markers k taken (is_there s ok k out))

    is_claimed : IsCoreOk (record s { words = set s.words a (word_with_traced true found); markers = views })
    is_claimed =
        let on = is_on s ok k out in
        let may = ok.may_is_closed on in
        let new = IsHand s.mutator views in
        let marks = marks_at s.mutator s.markers in
        rewritten_ok s ok (set s.words a (word_with_traced true found)) views marks now (fun_ext same_marks) refl
        (record {
          rewords = claimed_words s ok on a place grey now now_own now_other;
          traced = claimed_traced s ok on a place grey now now_own now_other;
          once = ok.marks_counted_once;
          strong = strong_claimed s ok on a place grey now now_own now_other new changes;
          pairs =
              pairs_same s.types s.mutator.bodies marks now s.mutator.pending new new (λ g is. is) (IsNoted s.mutator s.markers)
              (IsNoted s.mutator views) (still_noted s ok k out taken s.mutator (λ p h. h) (λ p h. h))
              (pairs_claimed s ok on a place grey now now_own now_other new changes);
          noted = noted_again s ok k out taken refl;
          hands = record {
            known = known_after s ok k out taken (λ x held. ok.hands_are_bodies.known view x (is_view s ok k out) held);
            hands = fits_claimed s ok on a place grey now now_own now_other new changes;
          };
          may = record {
            are_places = may.are_places;
            closed = may.closed;
            marked_in = may.marked_in;
            hands_in = hands_in_claimed s ok on a place grey now now_own now_other new changes;
            loaded_in = loaded_in_claimed s ok on a place grey now now_own now_other new changes;
            pending_in = may.pending_in;
            values = may.values;
            others = may.others;
            seen_are_marked = may.seen_are_marked;
            done_are_traced = λ x done.
                still_traced s ok on a place grey now now_own now_other x
                (done_after s ok k out taken (λ y held. may.done_are_traced y (inr (view, is_view s ok k out, held))) x done);
          };
          quiet = quiet_after s ok k out taken s.mutator.hand out (λ halted. ok.quiet_while_off.halted_views view (is_view s ok k out) halted);
        })

  abbrev taken_state : CoreState
  taken_state = record s {
    words = set s.words a (word_with_traced true found);
    markers = set s.markers k (record view { traced = view.traced ++ a ∷ []; hand = hand_claimed s.types a found });
  }

  claimed_if : (header : ℕ) → is_grey header ≡ true → IsCoreOk (core_claimed_as s k a header)
  claimed_if header grey = elim (cases_Bool (eqb found header)) [
    | inl same ↦
        subst IsCoreOk (sym (cond-true (eqb found header) taken_state (with_marker_view s k refused) same))
        (is_claimed (ap is_grey (eqb-true found header same) ∙ grey))
    | inr other ↦ subst IsCoreOk (sym (cond-false (eqb found header) taken_state (with_marker_view s k refused) other)) not_claimed
  ]

pub claim_as_ok : (s : CoreState) → IsCoreOk s → (k a header : ℕ) → can_claim_as s k a header ≡ true → IsCoreOk (core_claimed_as s k a header)
claim_as_ok s ok k a header can =
    let view = view_at s.markers k in
    let t3 = and_parts (holds view.known a && is_none view.hand && is_last view.last a header) (is_grey header) can in
    let t2 = and_parts (holds view.known a && is_none view.hand) (is_last view.last a header) t3.0 in
    let t1 = and_parts (holds view.known a) (is_none view.hand) t2.0 in
    claimed_if s ok k a t1.0 (is_none_tells view.hand t1.1) header t3.1
