-- The mutator claims an object: what is true of every state stays.
use Rattle.std.proofs.Common.{◌≡◌, ℕ, ◌+◌, ◌<◌, [], ◌∷◌, ◌++◌, get_or, set, Bool, true, false, not, cond, ◌&&◌, ltb, None, sym, ap, ◌∙◌, subst, inl, inr, arith}
use Rattle.std.specs.List.{sum_by}
use Rattle.std.specs.Option.{is_none}
use Rattle.std.proofs.lemmas.Bool.{cases_Bool, both_ways, and_parts, not-true}
use Rattle.object_headers.specs.Layout.{word_with_traced}
use Rattle.marker_core.specs.declared.states.CoreState.{CoreState}
use Rattle.marker_core.specs.declared.states.MutatorView.{MutatorView}
use Rattle.marker_core.specs.Layout.{has_mark, has_traced, is_traced}
use Rattle.marker_core.specs.Bodies.{is_place}
use Rattle.marker_core.specs.Hands.{hand_claimed}
use Rattle.marker_core.specs.MutatorSteps.{can_claim, claimed}
use Rattle.marker_core.specs.SeatSteps.{is_grey}
use Rattle.marker_core.specs.Views.{times, traces_at, marks_at, IsHand, IsHeaderRead}
use Rattle.marker_core.specs.Core.{IsCoreOk}
use Rattle.marker_core.proofs.Members.{held_after}
use Rattle.marker_core.proofs.Apart.{body_of_place}
use Rattle.marker_core.proofs.Counts.{times_push_same, times_push_other, false_is_none}
use Rattle.marker_core.proofs.Headers.{traced_tells}
use Rattle.marker_core.proofs.Loads.{found_traced}
use Rattle.marker_core.proofs.Tricolour.{HandChanges, mutator_changes}
use Rattle.marker_core.proofs.Claims.{is_none_tells, claimed_words, claimed_traced, still_traced, strong_claimed, pairs_claimed, fits_claimed, hands_in_claimed, loaded_in_claimed}

-- the state after the claim, where the header was grey or not
abbrev claimed_with : CoreState → ℕ → Bool → CoreState
claimed_with s a grey =
    let header = get_or s.words a 0 in
    record s {
      words = cond grey (set s.words a (word_with_traced true header)) s.words;
      mutator = record s.mutator {
        looked = s.mutator.looked ++ a ∷ [];
        traced = cond grey (s.mutator.traced ++ a ∷ []) s.mutator.traced;
        hand = cond grey (hand_claimed s.types a header) s.mutator.hand;
        done = cond (has_traced header) (s.mutator.done ++ a ∷ []) s.mutator.done;
        missed = cond (has_mark header) s.mutator.missed (s.mutator.missed ++ a ∷ []);
      };
    }

module _ (s : CoreState) (ok : IsCoreOk s) (on : s.mutator.on ≡ true) (none : s.mutator.hand ≡ None) (a : ℕ) (place : is_place s.mutator.bodies a ≡ true) where
  abbrev header : ℕ
  header = get_or s.words a 0

  abbrev traces : ℕ → ℕ
  traces = traces_at s.mutator s.markers

  done_cases : (x : ℕ) → IsHeaderRead (claimed_with s a false).mutator s.markers x → 0 < traces x
  done_cases x done = elim done [
    | inr other ↦ (ok.may_is_closed on).done_are_traced x (inr other)
    | inl own ↦ elim (held_after (has_traced header) s.mutator.done a x own) [
      | inl old ↦ (ok.may_is_closed on).done_are_traced x (inl old)
      | inr new ↦ subst (λ y. 0 < traces y) (sym new.1) (found_traced s ok a place new.0)
    ]
  ]

  not_claimed : IsCoreOk (claimed_with s a false)
  not_claimed =
      let may = ok.may_is_closed on in
      record {
        are_types = ok.are_types;
        has_room = ok.has_room;
        bodies_are_whole = ok.bodies_are_whole;
        bodies_lie_apart = ok.bodies_lie_apart;
        serials_differ = ok.serials_differ;
        headers_match = ok.headers_match;
        serials_match = ok.serials_match;
        starts_match = ok.starts_match;
        fields_match = ok.fields_match;
        filled_match = ok.filled_match;
        references_name_bodies = ok.references_name_bodies;
        quiet_while_off = ok.quiet_while_off;
        traced_are_marked = ok.traced_are_marked;
        marks_counted_once = ok.marks_counted_once;
        strong_targets_accounted = ok.strong_targets_accounted;
        pairs_accounted = ok.pairs_accounted;
        noted_are_pairs = ok.noted_are_pairs;
        hands_are_bodies = ok.hands_are_bodies;
        may_is_closed = λ _. record {
          are_places = may.are_places;
          closed = may.closed;
          marked_in = may.marked_in;
          hands_in = may.hands_in;
          loaded_in = may.loaded_in;
          pending_in = may.pending_in;
          values = may.values;
          others = may.others;
          seen_are_marked = may.seen_are_marked;
          done_are_traced = done_cases;
        };
      }

  module _ (grey : is_grey header ≡ true) where
    abbrev after : MutatorView
    after = (claimed_with s a true).mutator

    abbrev now : ℕ → ℕ
    now = traces_at after s.markers

    untraced : traces a ≡ 0
    untraced =
        let bit = not-true (has_traced header) (and_parts (has_mark header) (not (has_traced header)) grey).1 in
        let at = body_of_place s.mutator.bodies a place in
        let tells = traced_tells s.words (marks_at s.mutator s.markers) traces s.mutator.bodies ok.headers_match at.0 at.1 in
        let none_here : ltb 0 (traces at.0.place) ≡ false = sym tells ∙ ap (is_traced s.words) at.2 ∙ bit in
        ap traces (sym at.2) ∙ false_is_none (traces at.0.place) none_here

    own : now a ≡ 1
    own = omega (arith, times_push_same a s.mutator.traced, untraced)

    other : (x : ℕ) → (x ≡ a → ⊥) → now x ≡ traces x
    other x apart = ap (λ n. n + sum_by (λ v. times x v.traced) s.markers) (times_push_other a x s.mutator.traced apart)

    changes : HandChanges (IsHand s.mutator s.markers) (IsHand after s.markers) None (hand_claimed s.types a header)
    changes =
        subst (λ gone. HandChanges (IsHand s.mutator s.markers) (IsHand after s.markers) gone (hand_claimed s.types a header)) none
        (mutator_changes s.mutator after s.markers)

    is_claimed : IsCoreOk (claimed_with s a true)
    is_claimed =
        let may = ok.may_is_closed on in
        let words = claimed_words s ok on a place grey now own other in
        let new = IsHand after s.markers in
        record {
          are_types = ok.are_types;
          has_room = words.room;
          bodies_are_whole = ok.bodies_are_whole;
          bodies_lie_apart = ok.bodies_lie_apart;
          serials_differ = ok.serials_differ;
          headers_match = words.headers;
          serials_match = words.serials;
          starts_match = words.starts;
          fields_match = words.fields;
          filled_match = words.filled;
          references_name_bodies = ok.references_name_bodies;
          quiet_while_off = record {
            no_pending = ok.quiet_while_off.no_pending;
            no_hand = λ off. absurd (both_ways s.mutator.on off on);
            no_views = ok.quiet_while_off.no_views;
            no_dead = ok.quiet_while_off.no_dead;
            lent_views = ok.quiet_while_off.lent_views;
            spent_views = ok.quiet_while_off.spent_views;
            halted_views = λ v h halted. words.stop ∙ ok.quiet_while_off.halted_views v h halted;
          };
          traced_are_marked = claimed_traced s ok on a place grey now own other;
          marks_counted_once = ok.marks_counted_once;
          strong_targets_accounted = λ _. strong_claimed s ok on a place grey now own other new changes;
          pairs_accounted = λ _. pairs_claimed s ok on a place grey now own other new changes;
          noted_are_pairs = ok.noted_are_pairs;
          hands_are_bodies = record {
            known = ok.hands_are_bodies.known;
            hands = fits_claimed s ok on a place grey now own other new changes;
          };
          may_is_closed = λ _. record {
            are_places = may.are_places;
            closed = may.closed;
            marked_in = may.marked_in;
            hands_in = hands_in_claimed s ok on a place grey now own other new changes;
            loaded_in = loaded_in_claimed s ok on a place grey now own other new changes;
            pending_in = may.pending_in;
            values = may.values;
            others = may.others;
            seen_are_marked = may.seen_are_marked;
            done_are_traced = λ x done. still_traced s ok on a place grey now own other x (done_cases x done);
          };
        }

  pub claimed_state : IsCoreOk (claimed s a)
  claimed_state = elim (cases_Bool (is_grey header)) [
    | inl grey ↦ subst (λ b. IsCoreOk (claimed_with s a b)) (sym grey) (is_claimed grey)
    | inr other_word ↦ subst (λ b. IsCoreOk (claimed_with s a b)) (sym other_word) not_claimed
  ]

pub claim_ok : (s : CoreState) → IsCoreOk s → (a : ℕ) → can_claim s a ≡ true → IsCoreOk (claimed s a)
claim_ok s ok a can =
    let tests = and_parts (s.mutator.on && is_none s.mutator.hand) (is_place s.mutator.bodies a) can in
    let more = and_parts s.mutator.on (is_none s.mutator.hand) tests.0 in
    claimed_state s ok more.0 (is_none_tells s.mutator.hand more.1) a tests.1
