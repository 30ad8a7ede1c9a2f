-- The mutator marks an object: what is true of every state stays.
use Rattle.std.proofs.Common.{◌≡◌, ℕ, ◌+◌, ◌-◌, List, [], ◌∷◌, ◌++◌, true, ◌&&◌, eqb, ltb, Option, Some, None, sym, ap, ◌∙◌, subst, inl, inr, arith}
use mathlib.Core.Logic.{◌⊎◌}
use Rattle.std.specs.List.{sum_by}
use Rattle.std.proofs.lemmas.Bool.{cases_Bool, cond-true, cond-false, both_ways, and_parts, eqb-true}
use Rattle.marker_core.specs.declared.states.CoreState.{CoreState}
use Rattle.marker_core.specs.declared.states.Hand.{Hand}
use Rattle.marker_core.specs.declared.states.MutatorView.{MutatorView}
use Rattle.marker_core.specs.Layout.{is_marked}
use Rattle.marker_core.specs.Bodies.{is_place, holds}
use Rattle.marker_core.specs.Views.{times, marks_at, traces_at, IsHand, IsNoted}
use Rattle.marker_core.specs.Hands.{hand_moved, hand_after_mark, role_at_hand, wants_mark, each_hand}
use Rattle.marker_core.specs.MutatorSteps.{can_mark, marked}
use Rattle.marker_core.specs.SeatSteps.{settled}
use Rattle.marker_core.specs.Tracing.{PartFits, HandFits, StrongAccounted, PairsAccounted, IsLoaded}
use Rattle.marker_core.specs.Core.{IsCoreOk}
use Rattle.marker_core.proofs.Members.{holds_push_cases}
use Rattle.marker_core.proofs.Apart.{body_of_place, same_place}
use Rattle.marker_core.proofs.Counts.{times_push_same, times_push_other, true_is_some, false_is_none}
use Rattle.marker_core.proofs.Headers.{mark_tells}
use Rattle.marker_core.proofs.Remarks.{grown, new_mark_cases, remarked_words, remarked_traced, remarked_once, mark_done}
use Rattle.marker_core.proofs.Tricolour.{Covers, cover_more, HandChanges, HandTurn, mutator_changes, strong_covered, pairs_covered, fits_covered, strong_same, pairs_same, strong_turned, pairs_turned, hands_turned, hands_in_turned, loaded_in_turned}
use Rattle.marker_core.proofs.Traces.{hand_or_none}

settled_cases : (o : Option ℕ) (a t : ℕ) → o ≡ Some t → (settled o a ≡ Some t) ⊎ (t ≡ a)
settled_cases o a t e = elim (cases_Bool (eqb t a)) [
  | inl same ↦ inr (eqb-true t a same)
  | inr other ↦ inl (ap (λ p. settled p a) e ∙ cond-false (eqb t a) None (Some t) other)
]

settled_was : (o : Option ℕ) (a t : ℕ) → settled o a ≡ Some t → o ≡ Some t
settled_was None a t e = cc
settled_was (Some u) a t e = elim (cases_Bool (eqb u a)) [
  | inl same ↦ (let none : None ≡ Some t = sym (cond-true (eqb u a) None (Some u) same) ∙ e in cc)
  | inr other ↦ sym (cond-false (eqb u a) None (Some u) other) ∙ e
]

module _ (s : CoreState) (ok : IsCoreOk s) (on : s.mutator.on ≡ true) (a : ℕ) (place : is_place s.mutator.bodies a ≡ true) (kept : holds s.mutator.may a ≡ true) where
  abbrev after : MutatorView
  after = (marked s a).mutator

  abbrev was : ℕ → ℕ
  was = marks_at s.mutator s.markers

  abbrev now : ℕ → ℕ
  now = marks_at after s.markers

  bit_tells : is_marked s.words a ≡ ltb 0 (was a)
  bit_tells =
      let at = body_of_place s.mutator.bodies a place in
      ap (is_marked s.words) (sym at.2)
      ∙ mark_tells s.words was (traces_at s.mutator s.markers) s.mutator.bodies ok.headers_match at.0 at.1 ∙ ap (λ x. ltb 0 (was x)) at.2

  now_is : (x : ℕ) → (list : List ℕ) → after.marked ≡ list → now x ≡ times x list + sum_by (λ v. times x v.marked) s.markers
  now_is x list e = ap (λ l. times x l + sum_by (λ v. times x v.marked) s.markers) e

  pub now_own : now a ≡ 1
  now_own =
      let once = ok.marks_counted_once.once a in
      elim (cases_Bool (is_marked s.words a)) [
        | inl on_bit ↦
            (let some = true_is_some (was a) (sym bit_tells ∙ on_bit) in
            now_is a s.mutator.marked (cond-true (is_marked s.words a) s.mutator.marked (s.mutator.marked ++ a ∷ []) on_bit) ∙ omega arith)
        | inr off_bit ↦
            (let none : was a ≡ 0 = false_is_none (was a) (sym bit_tells ∙ off_bit) in
            now_is a (s.mutator.marked ++ a ∷ [])
            (cond-false (is_marked s.words a) s.mutator.marked (s.mutator.marked ++ a ∷ []) off_bit)
            ∙ omega (arith, times_push_same a s.mutator.marked))
      ]

  pub now_other : (x : ℕ) → (x ≡ a → ⊥) → now x ≡ was x
  now_other x apart = elim (cases_Bool (is_marked s.words a)) [
    | inl on_bit ↦ now_is x s.mutator.marked (cond-true (is_marked s.words a) s.mutator.marked (s.mutator.marked ++ a ∷ []) on_bit)
    | inr off_bit ↦
        now_is x (s.mutator.marked ++ a ∷ [])
        (cond-false (is_marked s.words a) s.mutator.marked (s.mutator.marked ++ a ∷ []) off_bit)
        ∙ omega (arith, times_push_other a x s.mutator.marked apart)
  ]

  -- ---- the state after it, with any hand

  abbrev later : Option ℕ
  later = settled s.mutator.pending a

  abbrev view_with : Option Hand → MutatorView
  view_with n = record after { hand = n }

  abbrev old : Hand → Type 0
  old = IsHand s.mutator s.markers

  abbrev new : Option Hand → Hand → Type 0
  new n = IsHand (view_with n) s.markers

  abbrev traces : ℕ → ℕ
  traces = traces_at s.mutator s.markers

  abbrev is_noted : ℕ → ℕ → Type 0
  is_noted = IsNoted s.mutator s.markers

  covers : Covers was now s.mutator.pending later
  covers =
      cover_more was now s.mutator.pending later (grown s ok on a place now now_own now_other)
      (λ t waits. elim (settled_cases s.mutator.pending a t waits) [
        | inl still ↦ inl still
        | inr same ↦ (let one : now t ≡ 1 = ap now same ∙ now_own in inr (omega arith))
      ])

  -- what the hands have to keep
  record HandParts (n : Option Hand) : Type 0 where
    strong : StrongAccounted s.types s.mutator.bodies now traces later (new n)
    pairs : PairsAccounted s.types s.mutator.bodies now traces later (new n) is_noted
    fits : (h : Hand) → new n h → HandFits s.types s.mutator.bodies now later s.mutator.may h
    hands_in : (h : Hand) → new n h → holds s.mutator.may h.place ≡ true
    loaded_in : (h : Hand) (t : ℕ) → new n h → IsLoaded h.part t → holds s.mutator.may t ≡ true

  assembled : (n : Option Hand) → HandParts n → IsCoreOk (record (marked s a) { mutator = view_with n })
  assembled n parts =
      let words = remarked_words s ok on a place now now_own now_other in
      let may = ok.may_is_closed on in
      record {
        are_types = ok.are_types;
        has_room = words.room;
        bodies_are_whole = ok.bodies_are_whole;
        bodies_lie_apart = ok.bodies_lie_apart;
        serials_differ = ok.serials_differ;
        headers_match = words.headers;
        serials_match = words.serials;
        starts_match = words.starts;
        fields_match = words.fields;
        filled_match = words.filled;
        references_name_bodies = ok.references_name_bodies;
        quiet_while_off = record {
          no_pending = λ off. absurd (both_ways s.mutator.on off on);
          no_hand = λ off. absurd (both_ways s.mutator.on off on);
          no_views = ok.quiet_while_off.no_views;
          no_dead = ok.quiet_while_off.no_dead;
          lent_views = ok.quiet_while_off.lent_views;
          spent_views = ok.quiet_while_off.spent_views;
          halted_views = λ v h halted. words.stop ∙ ok.quiet_while_off.halted_views v h halted;
        };
        traced_are_marked = remarked_traced s ok on a place now now_own now_other;
        marks_counted_once = remarked_once s ok on a place now now_own now_other;
        strong_targets_accounted = λ _. parts.strong;
        pairs_accounted = λ _. parts.pairs;
        noted_are_pairs = ok.noted_are_pairs;
        hands_are_bodies = record { known = ok.hands_are_bodies.known; hands = parts.fits };
        may_is_closed = λ _. record {
          are_places = may.are_places;
          closed = may.closed;
          marked_in = λ x some. elim (new_mark_cases s ok on a place now now_own now_other x some) [
            | inl same ↦ ap (holds s.mutator.may) same ∙ kept
            | inr before ↦ may.marked_in x before
          ];
          hands_in = parts.hands_in;
          loaded_in = parts.loaded_in;
          pending_in = λ t waits. may.pending_in t (settled_was s.mutator.pending a t waits);
          values = may.values;
          others = may.others;
          seen_are_marked = λ x seen. elim (holds_push_cases s.mutator.seen a x seen) [
            | inl same ↦ (let one : now x ≡ 1 = ap now same ∙ now_own in omega arith)
            | inr before ↦ grown s ok on a place now now_own now_other x (may.seen_are_marked x before)
          ];
          done_are_traced = may.done_are_traced;
        };
      }

  strong_now : StrongAccounted s.types s.mutator.bodies now traces later old
  strong_now =
      strong_covered s.types s.mutator.bodies was now traces s.mutator.pending later old covers (ok.strong_targets_accounted on)

  pairs_now : PairsAccounted s.types s.mutator.bodies now traces later old is_noted
  pairs_now =
      pairs_covered s.types s.mutator.bodies was now traces s.mutator.pending later old covers is_noted is_noted (λ p o n. n)
      (ok.pairs_accounted on)

  fits_now : (h : Hand) → old h → HandFits s.types s.mutator.bodies now later s.mutator.may h
  fits_now h held =
      fits_covered s.types s.mutator.bodies was now traces s.mutator.pending later old covers s.mutator.may s.mutator.may
      (λ x member. member) h (ok.hands_are_bodies.hands h held)

  without_hand : s.mutator.hand ≡ None → HandParts None
  without_hand none =
      let may = ok.may_is_closed on in
      let goes : (g : Hand) → old g → new None g = λ g is. elim is [
        | inl own ↦ (let e : None ≡ Some g = sym none ∙ own in cc)
        | inr other ↦ inr other
      ] in
      let comes : (g : Hand) → new None g → old g = λ g is. elim is [ inl own ↦ cc | inr other ↦ inr other ] in
      record {
        strong = strong_same s.types s.mutator.bodies now traces later old (new None) goes strong_now;
        pairs = pairs_same s.types s.mutator.bodies now traces later old (new None) goes is_noted is_noted (λ p o n. n) pairs_now;
        fits = λ h is. fits_now h (comes h is);
        hands_in = λ h is. may.hands_in h (comes h is);
        loaded_in = λ h t is loaded. may.loaded_in h t (comes h is) loaded;
      }

  module _ (h : Hand) (own_hand : s.mutator.hand ≡ Some h) where
    abbrev n : Option Hand
    n = hand_after_mark s.types a h

    turn : HandTurn s.types s.mutator.bodies now later s.mutator.may is_noted h n
    turn =
        let fits = fits_now h (inl own_hand) in
        elim (cases_Bool (wants_mark h.part a)) [
          | inl wants ↦ inl (
            cond-true (wants_mark h.part a) (hand_moved s.types h) (Some h) wants,
            mark_done s ok on a place now now_own now_other later is_noted h fits wants,
          )
          | inr stays ↦ inr (
            h.part,
            cond-false (wants_mark h.part a) (hand_moved s.types h) (Some h) stays,
            λ b there at.
                subst (λ c. PartFits s.mutator.bodies now later s.mutator.may (role_at_hand s.types h) c (h.next - 2) h.part)
                (same_place s.count s.types s.mutator.bodies ok.bodies_are_whole ok.bodies_lie_apart fits.body b fits.there there (fits.place ∙ sym at))
                fits.part,
            λ t loaded. (ok.may_is_closed on).loaded_in h t (inl own_hand) loaded,
          )
        ]

    with_hand : HandParts n
    with_hand =
        let may = ok.may_is_closed on in
        let fits = fits_now h (inl own_hand) in
        let changes : HandChanges old (new n) (Some h) n =
        subst (λ gone. HandChanges old (new n) gone n) own_hand (mutator_changes s.mutator (view_with n) s.markers)
        in
        record {
          strong =
              strong_turned s.count s.types s.mutator.bodies ok.bodies_are_whole ok.bodies_lie_apart now later s.mutator.may is_noted old (new n)
              h n changes fits turn traces strong_now;
          pairs =
              pairs_turned s.count s.types s.mutator.bodies ok.bodies_are_whole ok.bodies_lie_apart now later s.mutator.may is_noted old (new n)
              h n changes fits turn traces pairs_now;
          fits =
              hands_turned s.count s.types s.mutator.bodies ok.bodies_are_whole ok.bodies_lie_apart now later s.mutator.may is_noted old (new n)
              h n changes fits turn fits_now;
          hands_in =
              hands_in_turned s.count s.types s.mutator.bodies ok.bodies_are_whole ok.bodies_lie_apart now later s.mutator.may is_noted old
              (new n) h n changes fits turn may.hands_in (may.hands_in h (inl own_hand));
          loaded_in =
              loaded_in_turned s.count s.types s.mutator.bodies ok.bodies_are_whole ok.bodies_lie_apart now later s.mutator.may is_noted old
              (new n) h n changes fits turn may.loaded_in;
        }

  pub marked_state : IsCoreOk (marked s a)
  marked_state = elim (hand_or_none s.mutator.hand) [
    | inl none ↦
        subst (λ o. IsCoreOk (record (marked s a) { mutator = view_with (each_hand (hand_after_mark s.types a) o) })) (sym none)
        (assembled None (without_hand none))
    | inr some ↦
        subst (λ o. IsCoreOk (record (marked s a) { mutator = view_with (each_hand (hand_after_mark s.types a) o) })) (sym some.1)
        (assembled (n some.0 some.1) (with_hand some.0 some.1))
  ]

pub mark_ok : (s : CoreState) → IsCoreOk s → (a : ℕ) → can_mark s a ≡ true → IsCoreOk (marked s a)
mark_ok s ok a can =
    let tests = and_parts (s.mutator.on && is_place s.mutator.bodies a) (holds s.mutator.may a) can in
    let more = and_parts s.mutator.on (is_place s.mutator.bodies a) tests.0 in
    marked_state s ok more.0 a more.1 tests.1
