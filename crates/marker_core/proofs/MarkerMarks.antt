-- A marker marks the target in its hand: what is true of every state stays.
use Rattle.std.proofs.Common.{◌≡◌, ℕ, ◌+◌, ◌-◌, List, [], ◌∷◌, ◌++◌, get_or, set, true, false, cond, ltb, Option, Some, refl, sym, ap, ◌∙◌, subst, inl, inr, arith}
use mathlib.Core.Path.{fun_ext}
use Rattle.std.proofs.lemmas.Bool.{cases_Bool, cond-true, cond-false, false≢true, eqb-true}
use Rattle.object_headers.specs.Layout.{word_with_mark}
use Rattle.marker_core.specs.declared.states.CoreState.{CoreState}
use Rattle.marker_core.specs.declared.states.Hand.{Hand}
use Rattle.marker_core.specs.declared.states.MarkerView.{MarkerView}
use Rattle.marker_core.specs.declared.states.Part.{Part}
use Rattle.marker_core.specs.declared.states.Part.TheVariants.{Read, Mark, Key, Value}
use Rattle.marker_core.specs.Layout.{has_mark, is_marked}
use Rattle.marker_core.specs.Bodies.{is_place, holds}
use Rattle.marker_core.specs.Hands.{hand_moved, role_at_hand, wants_mark, wants, each_hand}
use Rattle.marker_core.specs.MarkerSteps.{can_mark_as, core_marked_as}
use Rattle.marker_core.specs.Views.{times, marks_at, traces_at, IsHand, IsNoted, view_at}
use Rattle.marker_core.specs.Tracing.{PartFits, HandFits}
use Rattle.marker_core.specs.Core.{IsCoreOk}
use Rattle.marker_core.proofs.Apart.{body_of_place}
use Rattle.marker_core.proofs.Counts.{times_push_same, times_push_other, true_is_some, false_is_none}
use Rattle.marker_core.proofs.Headers.{mark_tells}
use Rattle.marker_core.proofs.Remarks.{grown, new_mark_cases, remarked_words, remarked_traced, remarked_once, mark_done}
use Rattle.marker_core.proofs.Traces.{hand_or_none}
use Rattle.marker_core.proofs.Tricolour.{Covers, cover_more, HandChanges, HandTurn, marker_changes, strong_covered, pairs_covered, fits_covered, strong_turned, pairs_turned, hands_turned, hands_in_turned, loaded_in_turned}
use Rattle.marker_core.proofs.Retold.{rewritten_ok, is_there, is_view, is_on, own_hand, sum_after, still_noted, noted_again, quiet_after, known_after, done_after}
use Rattle.marker_core.proofs.Looks.{hand_is_out}

module _ (s : CoreState) (ok : IsCoreOk s) (k a : ℕ) (h : Hand) (mine : (view_at s.markers k).hand ≡ Some h) (want : wants_mark h.part a ≡ true) where
  abbrev view : MarkerView
  view = view_at s.markers k

  abbrev out : view.spent ≡ false
  out = hand_is_out s ok k h mine

  abbrev on : s.mutator.on ≡ true
  on = is_on s ok k out

  abbrev held : IsHand s.mutator s.markers h
  held = own_hand s ok k out h mine

  abbrev was : ℕ → ℕ
  was = marks_at s.mutator s.markers

  abbrev traces : ℕ → ℕ
  traces = traces_at s.mutator s.markers

  abbrev header : ℕ
  header = get_or s.words a 0

  abbrev moved : MarkerView
  moved = record view {
    marked = cond (has_mark header) view.marked (view.marked ++ a ∷ []);
    hand = each_hand (hand_moved s.types) view.hand;
  }

  abbrev views : List MarkerView
  views = set s.markers k moved

  abbrev now : ℕ → ℕ
  now = marks_at s.mutator views

  -- the target is a body, and may be kept
  target_of : (part : Part) → h.part ≡ part → wants_mark part a ≡ true → h.part ≡ Mark a
  target_of (Mark t) e w = e ∙ ap (λ x. Mark x) (sym (eqb-true a t w))
  target_of Read e w = absurd (false≢true w)
  target_of Value e w = absurd (false≢true w)
  target_of (Key x) e w = absurd (false≢true w)

  target : h.part ≡ Mark a
  target = target_of h.part refl want

  place : is_place s.mutator.bodies a ≡ true
  place =
      let fits = ok.hands_are_bodies.hands h held in
      let part : PartFits s.mutator.bodies was s.mutator.pending s.mutator.may (role_at_hand s.types h) fits.body (h.next - 2) (Mark a) =
      subst (PartFits s.mutator.bodies was s.mutator.pending s.mutator.may (role_at_hand s.types h) fits.body (h.next - 2)) target fits.part
      in
      part.0

  kept : holds s.mutator.may a ≡ true
  kept = (ok.may_is_closed on).loaded_in h a held target

  bit_tells : has_mark header ≡ ltb 0 (was a)
  bit_tells =
      let at = body_of_place s.mutator.bodies a place in
      ap (is_marked s.words) (sym at.2) ∙ mark_tells s.words was traces s.mutator.bodies ok.headers_match at.0 at.1 ∙ ap (λ x. ltb 0 (was x)) at.2

  marked_is : (x : ℕ) → (list : List ℕ) → moved.marked ≡ list → now x + times x view.marked ≡ was x + times x list
  marked_is x list e =
      let sums = sum_after s ok k out moved (λ v. times x v.marked) in
      let same : times x moved.marked ≡ times x list = ap (times x) e in
      omega (arith, sums, same)

  now_own : now a ≡ 1
  now_own =
      let once = ok.marks_counted_once.once a in
      elim (cases_Bool (has_mark header)) [
        | inl on_bit ↦
            (let some = true_is_some (was a) (sym bit_tells ∙ on_bit) in
            let sums = marked_is a view.marked (cond-true (has_mark header) view.marked (view.marked ++ a ∷ []) on_bit) in
            omega arith)
        | inr off_bit ↦
            (let none : was a ≡ 0 = false_is_none (was a) (sym bit_tells ∙ off_bit) in
            let sums = marked_is a (view.marked ++ a ∷ []) (cond-false (has_mark header) view.marked (view.marked ++ a ∷ []) off_bit) in
            omega (arith, times_push_same a view.marked))
      ]

  now_other : (x : ℕ) → (x ≡ a → ⊥) → now x ≡ was x
  now_other x apart = elim (cases_Bool (has_mark header)) [
    | inl on_bit ↦
        (let sums = marked_is x view.marked (cond-true (has_mark header) view.marked (view.marked ++ a ∷ []) on_bit) in omega arith)
    | inr off_bit ↦
        (let sums = marked_is x (view.marked ++ a ∷ []) (cond-false (has_mark header) view.marked (view.marked ++ a ∷ []) off_bit) in
        omega (arith, times_push_other a x view.marked apart))
  ]

  same_traces : (x : ℕ) → traces x ≡ traces_at s.mutator views x
  same_traces x = let sums = sum_after s ok k out moved (λ v. times x v.traced) in omega (arith, sums)

  -- ---- the hand moves on

  abbrev old : Hand → Type 0
  old = IsHand s.mutator s.markers

  abbrev new : Hand → Type 0
  new = IsHand s.mutator views

  abbrev is_noted : ℕ → ℕ → Type 0
  is_noted = IsNoted s.mutator views

  abbrev pending : Option ℕ
  pending = s.mutator.pending

  covers : Covers was now pending pending
  covers = cover_more was now pending pending (grown s ok on a place now now_own now_other) (λ t waits. inl waits)

  fits_now : (g : Hand) → old g → HandFits s.types s.mutator.bodies now pending s.mutator.may g
  fits_now g is =
      fits_covered s.types s.mutator.bodies was now traces pending pending old covers s.mutator.may s.mutator.may (λ x member. member) g
      (ok.hands_are_bodies.hands g is)

  abbrev n : Option Hand
  n = hand_moved s.types h

  turn : HandTurn s.types s.mutator.bodies now pending s.mutator.may is_noted h n
  turn = inl (refl, mark_done s ok on a place now now_own now_other pending is_noted h (fits_now h held) want)

  changes : HandChanges old new (Some h) n
  changes =
      subst (λ gone. HandChanges old new gone (each_hand (hand_moved s.types) gone)) mine
      (marker_changes s.mutator s.markers k moved (is_there s ok k out))

  marks_as : IsCoreOk (core_marked_as s k a)
  marks_as =
      let may = ok.may_is_closed on in
      let bodies = s.mutator.bodies in
      rewritten_ok s ok (set s.words a (word_with_mark true header)) views now traces refl (fun_ext same_traces)
      (record {
        rewords = remarked_words s ok on a place now now_own now_other;
        traced = remarked_traced s ok on a place now now_own now_other;
        once = remarked_once s ok on a place now now_own now_other;
        strong =
            strong_turned s.count s.types bodies ok.bodies_are_whole ok.bodies_lie_apart now pending s.mutator.may is_noted old new h n changes
            (fits_now h held) turn traces
            (strong_covered s.types bodies was now traces pending pending old covers (ok.strong_targets_accounted on));
        pairs =
            pairs_turned s.count s.types bodies ok.bodies_are_whole ok.bodies_lie_apart now pending s.mutator.may is_noted old new h n changes
            (fits_now h held) turn traces
            (pairs_covered s.types bodies was now traces pending pending old covers (IsNoted s.mutator s.markers) is_noted
            (still_noted s ok k out moved s.mutator (λ p there. there) (λ p there. there)) (ok.pairs_accounted on));
        noted = noted_again s ok k out moved refl;
        hands = record {
          known = known_after s ok k out moved (λ x known. ok.hands_are_bodies.known view x (is_view s ok k out) known);
          hands =
              hands_turned s.count s.types bodies ok.bodies_are_whole ok.bodies_lie_apart now pending s.mutator.may is_noted old new h n changes
              (fits_now h held) turn fits_now;
        };
        may = record {
          are_places = may.are_places;
          closed = may.closed;
          marked_in = λ x some. elim (new_mark_cases s ok on a place now now_own now_other x some) [
            | inl same ↦ ap (holds s.mutator.may) same ∙ kept
            | inr before ↦ may.marked_in x before
          ];
          hands_in =
              hands_in_turned s.count s.types bodies ok.bodies_are_whole ok.bodies_lie_apart now pending s.mutator.may is_noted old new h n
              changes (fits_now h held) turn may.hands_in (may.hands_in h held);
          loaded_in =
              loaded_in_turned s.count s.types bodies ok.bodies_are_whole ok.bodies_lie_apart now pending s.mutator.may is_noted old new h n
              changes (fits_now h held) turn may.loaded_in;
          pending_in = may.pending_in;
          values = may.values;
          others = may.others;
          seen_are_marked = λ x seen. grown s ok on a place now now_own now_other x (may.seen_are_marked x seen);
          done_are_traced =
              done_after s ok k out moved (λ x held_here. may.done_are_traced x (inr (view, is_view s ok k out, held_here)));
        };
        quiet = quiet_after s ok k out moved s.mutator.hand out (λ halted. ok.quiet_while_off.halted_views view (is_view s ok k out) halted);
      })

pub mark_as_ok : (s : CoreState) → IsCoreOk s → (k a : ℕ) → can_mark_as s k a ≡ true → IsCoreOk (core_marked_as s k a)
mark_as_ok s ok k a can = elim (hand_or_none (view_at s.markers k).hand) [
  | inl none ↦ absurd (false≢true (sym (ap (wants (λ h. wants_mark h.part a)) none) ∙ can))
  | inr some ↦ marks_as s ok k a some.0 some.1 (sym (ap (wants (λ h. wants_mark h.part a)) some.1) ∙ can)
]
