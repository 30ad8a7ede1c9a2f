-- What a seat may rely on is true of it in every state.
use Rattle.std.proofs.Common.{Contains, ◌≡◌, ℕ, ◌+◌, ◌-◌, ◌%◌, ◌<◌, List, get_or, true, false, not, cond, ltb, None, Some, sym, ap, ◌∙◌, subst, inl, inr, arith}
use Rattle.std.proofs.lemmas.Bool.{false_from_ne_true}
use Rattle.object_headers.specs.Layout.{header_word}
use Rattle.marker_core.specs.declared.states.Body.{Body}
use Rattle.marker_core.specs.declared.states.Hand.{Hand}
use Rattle.marker_core.specs.declared.states.MarkerView.{MarkerView}
use Rattle.marker_core.specs.declared.states.Part.{Part}
use Rattle.marker_core.specs.Layout.{bit_is_set, is_marked, is_traced}
use Rattle.marker_core.specs.Bodies.{word_in, is_place, holds}
use Rattle.marker_core.specs.Hands.{role_at_hand}
use Rattle.marker_core.specs.Views.{times, marks_at, traces_at, IsNoted}
use Rattle.marker_core.specs.Tracing.{IsCovered, PartFits}
use Rattle.marker_core.specs.Seats.{SeatSide, core_of}
use Rattle.marker_core.specs.Core.{IsCoreOk}
use Rattle.marker_core.specs.SeatFacts.{IsHeaderAt, MayBeFound, WordsMayBeFound, IsHandOf, TracedTargetsMarked, TracedPairsNoted, IsViewOk, ViewsAreOk}
use Rattle.marker_core.proofs.Apart.{body_of_place, place_of_body}
use Rattle.marker_core.proofs.Counts.{some_is_true, true_is_some}
use Rattle.marker_core.proofs.Headers.{mark_tells, traced_tells}
use Rattle.marker_core.proofs.Quiet.{none_in, no_hands, nothing_noted}
use Rattle.marker_core.proofs.SeatEnds.{some_times, own_traces, marked_same, traced_same}
use Rattle.marker_core.proofs.Stops.{all_spent}

module _ (v : SeatSide) (words : List ℕ) (markers : List MarkerView) (ok : IsCoreOk (core_of v words markers)) where
  abbrev bodies : List Body
  bodies = v.mutator.bodies

  abbrev marks : ℕ → ℕ
  marks = marks_at v.mutator markers

  abbrev traces : ℕ → ℕ
  traces = traces_at v.mutator markers

  own_is_marked : (a : ℕ) → holds v.mutator.marked a ≡ true → 0 < marks a
  own_is_marked a own =
      let some = true_is_some (times a v.mutator.marked) (some_times a v.mutator.marked ∙ own) in omega (arith, some)

  own_is_traced : (a : ℕ) → holds v.mutator.traced a ≡ true → 0 < traces a
  own_is_traced a own =
      let some = true_is_some (times a v.mutator.traced) (some_times a v.mutator.traced ∙ own) in omega (arith, some)

  -- ---- a header

  marked_tells : (a : ℕ) → is_place bodies a ≡ true → is_marked words a ≡ ltb 0 (marks a)
  marked_tells a place =
      let at = body_of_place bodies a place in
      subst (λ p. is_marked words p ≡ ltb 0 (marks p)) at.2 (mark_tells words marks traces bodies ok.headers_match at.0 at.1)

  trace_tells : (a : ℕ) → is_place bodies a ≡ true → is_traced words a ≡ ltb 0 (traces a)
  trace_tells a place =
      let at = body_of_place bodies a place in
      subst (λ p. is_traced words p ≡ ltb 0 (traces p)) at.2 (traced_tells words marks traces bodies ok.headers_match at.0 at.1)

  header_found : (a : ℕ) → is_place bodies a ≡ true → IsHeaderAt v a (get_or words a 0)
  header_found a place = record {
    word = λ b h e.
        let found : get_or words a 0 ≡ header_word true (ltb 0 (marks a)) (ltb 0 (traces a)) b.ty b.size =
        subst (λ p. get_or words p 0 ≡ header_word true (ltb 0 (marks p)) (ltb 0 (traces p)) b.ty b.size) e (ok.headers_match b h)
        in
        found ∙ ap (λ m. header_word true m (ltb 0 (traces a)) b.ty b.size) (sym (marked_tells a place))
        ∙ ap (λ m. header_word true (is_marked words a) m b.ty b.size) (sym (trace_tells a place));
    mark = record {
      set = λ own. marked_tells a place ∙ some_is_true (marks a) (own_is_marked a own);
      alone = λ lent. marked_same v words markers ok lent a place;
    };
    traced = record {
      set = λ own. trace_tells a place ∙ some_is_true (traces a) (own_is_traced a own);
      alone = λ lent. traced_same v words markers ok lent a place;
    };
    traced_is_marked = λ traced.
        let some = true_is_some (traces a) (sym (trace_tells a place) ∙ traced) in
        let most = ok.traced_are_marked a in
        marked_tells a place ∙ some_is_true (marks a) (omega arith);
    may = λ on marked. (ok.may_is_closed on).marked_in a (true_is_some (marks a) (sym (marked_tells a place) ∙ marked));
  }

  pub word_found : (a : ℕ) → MayBeFound v a (get_or words a 0)
  word_found a = record {
    header = header_found a;
    serial = λ b h e. ap (λ x. get_or words x 0) (sym e) ∙ ok.serials_match b h;
    field = λ b i h within e. ap (λ x. get_or words x 0) (sym e) ∙ ok.fields_match b i h within;
    filled = λ f h e. ap (λ x. get_or words x 0) (sym e) ∙ ok.filled_match.word f h;
    start = λ p below e. ap (λ x. bit_is_set (get_or words x 0) (p % 64)) (sym e) ∙ ok.starts_match p below;
  }

  -- ---- the view

  hand_found : (on : v.mutator.on ≡ true) (h : Hand) → v.mutator.hand ≡ Some h → IsHandOf v h
  hand_found on h own =
      let fits = ok.hands_are_bodies.hands h (inl own) in
      let may = ok.may_is_closed on in
      let role = role_at_hand v.types h in
      record {
        holder = (place_of_body bodies fits.body h.place fits.there fits.place, may.hands_in h (inl own));
        target = λ t e. (
          (subst (λ (part : Part). PartFits bodies marks v.mutator.pending v.mutator.may role fits.body (h.next - 2) part) e fits.part).0,
          may.loaded_in h t (inl own) e,
        );
        key = λ k e. (subst (λ (part : Part). PartFits bodies marks v.mutator.pending v.mutator.may role fits.body (h.next - 2) part) e fits.part).0;
      }

  covered_is_marked : v.mutator.lent ≡ 0 → v.mutator.pending ≡ None → (w : ℕ) → 0 < w → IsCovered marks v.mutator.pending w
      → holds v.mutator.marked (w - 1) ≡ true
  covered_is_marked lent no_pending w some covered = elim covered [
    | inl null ↦ absurd (omega (arith, null))
    | inr other ↦ elim other [
      | inl marked ↦
          (let place = ok.marks_counted_once.are_bodies (w - 1) marked in
          sym (marked_same v words markers ok lent (w - 1) place) ∙ marked_tells (w - 1) place ∙ some_is_true (marks (w - 1)) marked)
      | inr waits ↦ (let none : None ≡ Some (w - 1) = sym no_pending ∙ waits in cc)
    ]
  ]

  strong_targets : v.mutator.on ≡ true → v.mutator.lent ≡ 0 → v.mutator.hand ≡ None → v.mutator.pending ≡ None → TracedTargetsMarked v
  strong_targets on lent no_hand no_pending b i there traced role some =
      elim (ok.strong_targets_accounted on b i there (own_is_traced b.place traced) role) [
        | inl covered ↦ covered_is_marked lent no_pending (word_in b i) some covered
        | inr held ↦ absurd (no_hands (core_of v words markers) ok (all_spent (core_of v words markers) ok lent) no_hand held.0 held.1)
      ]

  -- where no view is lent, what was noted the mutator noted
  own_note : v.mutator.lent ≡ 0 → (p offset : ℕ) → IsNoted v.mutator markers p offset → Contains v.mutator.noted (p, offset)
  own_note lent p offset noted = elim noted [
    | inl own ↦ own
    | inr other ↦ absurd (nothing_noted (core_of v words markers) ok (all_spent (core_of v words markers) ok lent) p offset other)
  ]

  pairs_noted : v.mutator.on ≡ true → v.mutator.lent ≡ 0 → v.mutator.hand ≡ None → v.mutator.pending ≡ None → TracedPairsNoted v
  pairs_noted on lent no_hand no_pending b i there traced role key value =
      elim (ok.pairs_accounted on b i there (own_is_traced b.place traced) role) [
        | inl null ↦ absurd (omega (arith, null, key))
        | inr other ↦ elim other [
          | inl covered ↦ inl (covered_is_marked lent no_pending (word_in b (i + 1)) value covered)
          | inr noted ↦ elim noted [
            | inl told ↦ inr (own_note lent b.place (i + 2) told)
            | inr held ↦ absurd (no_hands (core_of v words markers) ok (all_spent (core_of v words markers) ok lent) no_hand held.0 held.1)
          ]
        ]
      ]

  none_lent : v.mutator.on ≡ false → v.mutator.lent ≡ 0
  none_lent off =
      ok.quiet_while_off.lent_views
      ∙ none_in markers (λ (m : MarkerView). cond (not m.spent) 1 0) (λ m h. ap (λ b. cond (not b) 1 0) (ok.quiet_while_off.no_views off m h))

  pub view_ok : IsViewOk v
  view_ok = record {
    are_types = ok.are_types;
    bodies_are_whole = ok.bodies_are_whole;
    bodies_lie_apart = ok.bodies_lie_apart;
    serials_differ = ok.serials_differ;
    filled_outside = λ f h. (ok.filled_match.inside f h, ok.filled_match.outside f h);
    references_name_bodies = ok.references_name_bodies;
    marked_are_bodies = λ a own. ok.marks_counted_once.are_bodies a (own_is_marked a own);
    traced_are_bodies = λ a own.
        let some = own_is_traced a own in
        let most = ok.traced_are_marked a in
        ok.marks_counted_once.are_bodies a (omega arith);
    traced_once = λ a. let most = ok.traced_are_marked a in let once = ok.marks_counted_once.once a in omega arith;
    traced_are_marked = λ lent a own.
        let some = own_is_traced a own in
        let most = ok.traced_are_marked a in
        let place = ok.marks_counted_once.are_bodies a (omega arith) in
        sym (marked_same v words markers ok lent a place) ∙ marked_tells a place ∙ some_is_true (marks a) (omega arith);
    dead_are_unmarked = λ a dead.
        let told = ok.marks_counted_once.dead_are_unmarked a dead in (
          told.0,
          false_from_ne_true (holds v.mutator.marked a) (λ own. let some = own_is_marked a own in omega (arith, told.1)),
        );
    marking = λ on.
        let may = ok.may_is_closed on in
        record {
          no_dead = ok.quiet_while_off.no_dead on;
          are_places = may.are_places;
          closed = may.closed;
          marked_in = λ a own. may.marked_in a (own_is_marked a own);
          hand = hand_found on;
          pending_in = may.pending_in;
          noted_are_pairs = λ p offset own. ok.noted_are_pairs on p offset (inl own);
          done_are_traced = λ lent a done.
              sym (own_traces v words markers ok lent a) ∙ some_is_true (traces a) (may.done_are_traced a (inl done));
          traced_targets = strong_targets on;
          traced_pairs = pairs_noted on;
        };
    at_rest = λ off. record {
      no_pending = ok.quiet_while_off.no_pending off;
      no_hand = ok.quiet_while_off.no_hand off;
      none_lent = none_lent off;
    };
  }

pub words_may_be_found : WordsMayBeFound
words_may_be_found v words markers a ok = word_found v words markers ok a

pub views_are_ok : ViewsAreOk
views_are_ok v words markers ok = view_ok v words markers ok
