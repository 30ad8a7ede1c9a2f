-- A load keeps what is true of every state.
use Rattle.std.proofs.Common.{◌≡◌, ℕ, ◌+◌, ◌-◌, ◌<◌, List, [], ◌∷◌, ◌++◌, get_or, true, ◌&&◌, ltb, sym, ap, ◌∙◌, subst, inl, inr, arith}
use Rattle.std.proofs.lemmas.Bool.{cases_Bool, cond-true, cond-false, both_ways, and_parts, false_from_ne_true}
use Rattle.gc_graph.specs.Reach.{ReachIsLeast}
use Rattle.marker_core.specs.declared.states.CoreState.{CoreState}
use Rattle.marker_core.specs.declared.states.MutatorView.{MutatorView}
use Rattle.marker_core.specs.declared.states.Why.TheVariants.{Read, Weak}
use Rattle.marker_core.specs.Layout.{is_traced}
use Rattle.marker_core.specs.Bodies.{word_in, is_place, holds}
use Rattle.marker_core.specs.Closed.{reach_over}
use Rattle.marker_core.specs.Views.{marks_at, traces_at, IsHand, IsHeaderRead}
use Rattle.marker_core.specs.MutatorSteps.{core_loaded}
use Rattle.marker_core.specs.Seats.{seat_of}
use Rattle.marker_core.specs.SeatSteps.{seat_looked, may_after_read}
use Rattle.marker_core.specs.Tracing.{MayIsClosed}
use Rattle.marker_core.specs.Core.{IsCoreOk}
use Rattle.marker_core.specs.Laws.{IsLeastOver}
use Rattle.marker_core.proofs.Members.{held_after, holds_more}
use Rattle.marker_core.proofs.Apart.{body_of_place}
use Rattle.marker_core.proofs.Counts.{true_is_some}
use Rattle.marker_core.proofs.Headers.{traced_tells}
use Rattle.marker_core.proofs.Reached.{reach_over_law}
use Rattle.marker_core.proofs.Tricolour.{fits_covered}
use Rattle.marker_core.proofs.Turns.{all_name_bodies}

-- the mutator's view after the word at a was loaded
abbrev pub looked_at : CoreState → ℕ → MutatorView
looked_at s a = seat_looked (seat_of s) a (get_or s.words a 0)

module _ (s : CoreState) (ok : IsCoreOk s) where
  -- a header that is found traced is a traced body's
  pub found_traced : (a : ℕ) → is_place s.mutator.bodies a ≡ true → is_traced s.words a ≡ true → 0 < traces_at s.mutator s.markers a
  found_traced a place bit =
      let at = body_of_place s.mutator.bodies a place in
      let tells = traced_tells s.words (marks_at s.mutator s.markers) (traces_at s.mutator s.markers) s.mutator.bodies ok.headers_match at.0 at.1 in
      let one : ltb 0 (traces_at s.mutator s.markers at.0.place) ≡ true = sym tells ∙ ap (is_traced s.words) at.2 ∙ bit in
      subst (λ x. 0 < traces_at s.mutator s.markers x) at.2 (true_is_some (traces_at s.mutator s.markers at.0.place) one)

  module _ (on : s.mutator.on ≡ true) (a : ℕ) where
    pub looked_done : (x : ℕ) → IsHeaderRead (looked_at s a) s.markers x → 0 < traces_at s.mutator s.markers x
    looked_done x done = elim done [
      | inr other ↦ (ok.may_is_closed on).done_are_traced x (inr other)
      | inl own ↦ elim (held_after (s.mutator.on && is_place s.mutator.bodies a && is_traced s.words a) s.mutator.done a x own) [
        | inl old ↦ (ok.may_is_closed on).done_are_traced x (inl old)
        | inr new ↦
            (let tests = and_parts (s.mutator.on && is_place s.mutator.bodies a) (is_traced s.words a) new.0 in
            let place = and_parts s.mutator.on (is_place s.mutator.bodies a) tests.0 in
            subst (λ y. 0 < traces_at s.mutator s.markers y) (sym new.1) (found_traced a place.1 tests.1))
      ]
    ]

    abbrev MayOf : List ℕ → Type 0
    MayOf may = MayIsClosed s.types s.mutator.bodies (marks_at s.mutator s.markers) (traces_at s.mutator s.markers) s.mutator.pending may
        s.mutator.seen (IsHand s.mutator s.markers) (IsHeaderRead (looked_at s a) s.markers)

    looked_may : MayOf s.mutator.may
    looked_may =
        let may = ok.may_is_closed on in
        record {
          are_places = may.are_places;
          closed = may.closed;
          marked_in = may.marked_in;
          hands_in = may.hands_in;
          loaded_in = may.loaded_in;
          pending_in = may.pending_in;
          values = may.values;
          others = may.others;
          seen_are_marked = may.seen_are_marked;
          done_are_traced = looked_done;
        }

    -- ---- a weak read

    abbrev roots : List ℕ
    roots = s.mutator.may ++ a ∷ []

    abbrev reached : List ℕ
    reached = reach_over s.count s.types s.mutator.bodies roots

    read_may : IsLeastOver s.types s.mutator.bodies roots reached → MayOf reached
    read_may least =
        let may = ok.may_is_closed on in
        let grown : (x : ℕ) → holds s.mutator.may x ≡ true → holds reached x ≡ true =
        λ x member. least.roots_in x (holds_more s.mutator.may (a ∷ []) x member) (may.are_places x member)
        in
        record {
          are_places = least.places;
          closed = least.closed;
          marked_in = λ x marked. grown x (may.marked_in x marked);
          hands_in = λ h held. grown h.place (may.hands_in h held);
          loaded_in = λ h t held loaded. grown t (may.loaded_in h t held loaded);
          pending_in = λ t waits. grown t (may.pending_in t waits);
          values = λ b i h member role null some. elim (cases_Bool (holds s.mutator.may b.place)) [
            | inl old ↦ grown (word_in b (i + 1) - 1) (may.values b i h old role null some)
            | inr new ↦ absurd (omega (arith, (may.others b i h new role).0 null))
          ];
          others = λ b i h out role.
              may.others b i h (false_from_ne_true (holds s.mutator.may b.place) (λ member. both_ways (holds reached b.place) out (grown b.place member))) role;
          seen_are_marked = may.seen_are_marked;
          done_are_traced = looked_done;
        }

  pub read_ok : (a : ℕ) → IsCoreOk (core_loaded s a Read)
  read_ok a = record {
    are_types = ok.are_types;
    has_room = ok.has_room;
    bodies_are_whole = ok.bodies_are_whole;
    bodies_lie_apart = ok.bodies_lie_apart;
    serials_differ = ok.serials_differ;
    headers_match = ok.headers_match;
    serials_match = ok.serials_match;
    starts_match = ok.starts_match;
    fields_match = ok.fields_match;
    filled_match = ok.filled_match;
    references_name_bodies = ok.references_name_bodies;
    quiet_while_off = ok.quiet_while_off;
    traced_are_marked = ok.traced_are_marked;
    marks_counted_once = ok.marks_counted_once;
    strong_targets_accounted = ok.strong_targets_accounted;
    pairs_accounted = ok.pairs_accounted;
    noted_are_pairs = ok.noted_are_pairs;
    hands_are_bodies = ok.hands_are_bodies;
    may_is_closed = λ on. looked_may on a;
  }

  weak_may : ReachIsLeast → (a : ℕ) → (on : s.mutator.on ≡ true) → MayOf on a (may_after_read (seat_of s) a)
  weak_may law a on =
      subst (MayOf on a) (sym (cond-true s.mutator.on (reached on a) s.mutator.may on))
      (read_may on a (reach_over_law law s.count s.types s.mutator.bodies (roots on a) ok.bodies_are_whole ok.bodies_lie_apart (all_name_bodies s ok on)))

  weak_grows : ReachIsLeast → (a : ℕ) → (x : ℕ) → holds s.mutator.may x ≡ true → (s.mutator.on ≡ true → is_place s.mutator.bodies x ≡ true)
      → holds (may_after_read (seat_of s) a) x ≡ true
  weak_grows law a x member place = elim (cases_Bool s.mutator.on) [
    | inl on ↦
        (let least = reach_over_law law s.count s.types s.mutator.bodies (roots on a) ok.bodies_are_whole ok.bodies_lie_apart (all_name_bodies s ok on) in
        ap (λ may. holds may x) (cond-true s.mutator.on (reached on a) s.mutator.may on)
        ∙ least.roots_in x (holds_more s.mutator.may (a ∷ []) x member) (place on))
    | inr off ↦
        ap (λ may. holds may x)
        (cond-false s.mutator.on (reach_over s.count s.types s.mutator.bodies (s.mutator.may ++ a ∷ [])) s.mutator.may off) ∙ member
  ]

  pub weak_ok : ReachIsLeast → (a : ℕ) → IsCoreOk (core_loaded s a Weak)
  weak_ok law a = record {
    are_types = ok.are_types;
    has_room = ok.has_room;
    bodies_are_whole = ok.bodies_are_whole;
    bodies_lie_apart = ok.bodies_lie_apart;
    serials_differ = ok.serials_differ;
    headers_match = ok.headers_match;
    serials_match = ok.serials_match;
    starts_match = ok.starts_match;
    fields_match = ok.fields_match;
    filled_match = ok.filled_match;
    references_name_bodies = ok.references_name_bodies;
    quiet_while_off = ok.quiet_while_off;
    traced_are_marked = ok.traced_are_marked;
    marks_counted_once = ok.marks_counted_once;
    strong_targets_accounted = ok.strong_targets_accounted;
    pairs_accounted = ok.pairs_accounted;
    noted_are_pairs = ok.noted_are_pairs;
    hands_are_bodies = record {
      known = ok.hands_are_bodies.known;
      hands = λ h held.
          fits_covered s.types s.mutator.bodies (marks_at s.mutator s.markers) (marks_at s.mutator s.markers) (traces_at s.mutator s.markers)
          s.mutator.pending s.mutator.pending (IsHand s.mutator s.markers) (λ w c. c) s.mutator.may (may_after_read (seat_of s) a)
          (λ x member. weak_grows law a x member (λ on. (ok.may_is_closed on).are_places x member)) h (ok.hands_are_bodies.hands h held);
    };
    may_is_closed = λ on. weak_may law a on;
  }
