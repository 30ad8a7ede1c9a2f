-- The mutator's hand takes a turn: what is true of every state stays.
use Rattle.std.proofs.Common.{◌≡◌, ℕ, List, ◌++◌, get_or, Bool, true, ◌||◌, Option, Some, None, refl, sym, ap, ◌∙◌, subst, inl, inr, Contains}
use mathlib.Core.Logic.{◌⊎◌}
use Rattle.std.proofs.lemmas.Bool.{cases_Bool, cond-true, cond-false, false≢true, both_ways, or_cases}
use Rattle.std.proofs.lemmas.List.Elements.{Contains-append_left, Contains-append_right, Contains-append_cases}
use Rattle.marker_core.specs.declared.states.CoreState.{CoreState}
use Rattle.marker_core.specs.declared.states.Hand.{Hand}
use Rattle.marker_core.specs.declared.states.MutatorView.{MutatorView}
use Rattle.marker_core.specs.declared.states.Why.TheVariants.{Trace}
use Rattle.marker_core.specs.Views.{marks_at, traces_at, IsHand, IsNoted}
use Rattle.marker_core.specs.Hands.{hand_read, hand_looked, wants_word, wants_key, wants, noted_pair, each_hand}
use Rattle.marker_core.specs.MutatorSteps.{can_load, core_loaded}
use Rattle.marker_core.specs.Tracing.{NotedArePairs}
use Rattle.marker_core.specs.Core.{IsCoreOk}
use Rattle.marker_core.proofs.Tricolour.{HandTurn, HandChanges, mutator_changes, strong_turned, pairs_turned, pairs_covered, hands_turned, hands_in_turned, loaded_in_turned}
use Rattle.marker_core.proofs.Turns.{turn_by_word, turn_by_key, noted_here, noted_is_pair}
use Rattle.marker_core.proofs.Loads.{looked_at, looked_done}

pub hand_or_none : (o : Option Hand) → (o ≡ None) ⊎ ((h : Hand) × (o ≡ Some h))
hand_or_none None = inl refl
hand_or_none (Some h) = inr (h, refl)

-- the mutator's view after a load, with another hand and more noted pairs
abbrev pub turned_view : CoreState → ℕ → Option Hand → List (ℕ × ℕ) → MutatorView
turned_view s a n noted = record (looked_at s a) { hand = n; noted = noted }

abbrev pub turned_state : CoreState → ℕ → Option Hand → List (ℕ × ℕ) → CoreState
turned_state s a n noted = record s { mutator = turned_view s a n noted }

module _ (s : CoreState) (ok : IsCoreOk s) (on : s.mutator.on ≡ true) (a : ℕ) (h : Hand) (own : s.mutator.hand ≡ Some h) where
  held : IsHand s.mutator s.markers h
  held = inl own

  module _ (n : Option Hand) (noted : List (ℕ × ℕ)) (more : (p : ℕ × ℕ) → Contains s.mutator.noted p → Contains noted p) where
    abbrev is_noted : ℕ → ℕ → Type 0
    is_noted = IsNoted (turned_view s a n noted) s.markers

    changes : HandChanges (IsHand s.mutator s.markers) (IsHand (turned_view s a n noted) s.markers) (Some h) n
    changes =
        subst (λ gone. HandChanges (IsHand s.mutator s.markers) (IsHand (turned_view s a n noted) s.markers) gone n) own
        (mutator_changes s.mutator (turned_view s a n noted) s.markers)

    still_noted : (p o : ℕ) → IsNoted s.mutator s.markers p o → is_noted p o
    still_noted p o note = elim note [ inl own_note ↦ inl (more (p, o) own_note) | inr other ↦ inr other ]

    pub turned_ok : HandTurn s.types s.mutator.bodies (marks_at s.mutator s.markers) s.mutator.pending s.mutator.may is_noted h n
        → NotedArePairs s.types s.mutator.bodies is_noted → IsCoreOk (turned_state s a n noted)
    turned_ok turn notes =
        let fits = ok.hands_are_bodies.hands h held in
        let marks = marks_at s.mutator s.markers in
        let traces = traces_at s.mutator s.markers in
        let old = IsHand s.mutator s.markers in
        let new = IsHand (turned_view s a n noted) s.markers in
        let may = ok.may_is_closed on in
        record {
          are_types = ok.are_types;
          has_room = ok.has_room;
          bodies_are_whole = ok.bodies_are_whole;
          bodies_lie_apart = ok.bodies_lie_apart;
          serials_differ = ok.serials_differ;
          headers_match = ok.headers_match;
          serials_match = ok.serials_match;
          starts_match = ok.starts_match;
          fields_match = ok.fields_match;
          filled_match = ok.filled_match;
          references_name_bodies = ok.references_name_bodies;
          quiet_while_off = record {
            no_pending = ok.quiet_while_off.no_pending;
            no_hand = λ off. absurd (both_ways s.mutator.on off on);
            no_views = ok.quiet_while_off.no_views;
            no_dead = ok.quiet_while_off.no_dead;
            lent_views = ok.quiet_while_off.lent_views;
            spent_views = ok.quiet_while_off.spent_views;
            halted_views = ok.quiet_while_off.halted_views;
          };
          traced_are_marked = ok.traced_are_marked;
          marks_counted_once = ok.marks_counted_once;
          strong_targets_accounted = λ _.
              strong_turned s.count s.types s.mutator.bodies ok.bodies_are_whole ok.bodies_lie_apart marks s.mutator.pending s.mutator.may is_noted
              old new h n changes fits turn traces (ok.strong_targets_accounted on);
          pairs_accounted = λ _.
              pairs_turned s.count s.types s.mutator.bodies ok.bodies_are_whole ok.bodies_lie_apart marks s.mutator.pending s.mutator.may is_noted
              old new h n changes fits turn traces
              (pairs_covered s.types s.mutator.bodies marks marks traces s.mutator.pending s.mutator.pending old (λ w c. c)
              (IsNoted s.mutator s.markers) is_noted still_noted (ok.pairs_accounted on));
          noted_are_pairs = λ _. notes;
          hands_are_bodies = record {
            known = ok.hands_are_bodies.known;
            hands =
                hands_turned s.count s.types s.mutator.bodies ok.bodies_are_whole ok.bodies_lie_apart marks s.mutator.pending s.mutator.may
                is_noted old new h n changes fits turn ok.hands_are_bodies.hands;
          };
          may_is_closed = λ _. record {
            are_places = may.are_places;
            closed = may.closed;
            marked_in = may.marked_in;
            hands_in =
                hands_in_turned s.count s.types s.mutator.bodies ok.bodies_are_whole ok.bodies_lie_apart marks s.mutator.pending s.mutator.may
                is_noted old new h n changes fits turn may.hands_in (may.hands_in h held);
            loaded_in =
                loaded_in_turned s.count s.types s.mutator.bodies ok.bodies_are_whole ok.bodies_lie_apart marks s.mutator.pending s.mutator.may
                is_noted old new h n changes fits turn may.loaded_in;
            pending_in = may.pending_in;
            values = may.values;
            others = may.others;
            seen_are_marked = may.seen_are_marked;
            done_are_traced = looked_done s ok on a;
          };
        }

  -- ---- a load for the hand

  abbrev word : ℕ
  word = get_or s.words a 0

  trace_by_key : wants_key h.part a ≡ true → IsCoreOk (turned_state s a (hand_looked s.types word h) (s.mutator.noted ++ noted_pair word (Some h)))
  trace_by_key key =
      let noted = s.mutator.noted ++ noted_pair word (Some h) in
      let n = hand_looked s.types word h in
      let more : (p : ℕ × ℕ) → Contains s.mutator.noted p → Contains noted p = λ p. Contains-append_left s.mutator.noted (noted_pair word (Some h)) p in
      turned_ok n noted more
      (turn_by_key s ok on (is_noted n noted more) h held a key
      (λ unmarked.
      inl (Contains-append_right s.mutator.noted (noted_pair word (Some h)) (h.place, h.next) (noted_here word h unmarked))))
      (λ p o note. elim note [
        | inr other ↦ ok.noted_are_pairs on p o (inr other)
        | inl own_note ↦ elim (Contains-append_cases s.mutator.noted (noted_pair word (Some h)) (p, o) own_note) [
          | inl was ↦ ok.noted_are_pairs on p o (inl was)
          | inr new ↦ noted_is_pair s ok on (is_noted n noted more) h held a key p o new
        ]
      ])

  trace_by_word : wants_word h h.part a ≡ true → IsCoreOk (turned_state s a (hand_read s.types word h) s.mutator.noted)
  trace_by_word want =
      let n = hand_read s.types word h in
      let more : (p : ℕ × ℕ) → Contains s.mutator.noted p → Contains s.mutator.noted p = λ p there. there in
      turned_ok n s.mutator.noted more (turn_by_word s ok on (is_noted n s.mutator.noted more) h held a want) (ok.noted_are_pairs on)

  abbrev by_key : MutatorView
  by_key = turned_view s a (each_hand (hand_looked s.types word) s.mutator.hand) (s.mutator.noted ++ noted_pair word s.mutator.hand)

  abbrev by_word : MutatorView
  by_word = record (looked_at s a) { hand = each_hand (hand_read s.types word) s.mutator.hand }

  wants_own : (test : Hand → Bool) → wants test s.mutator.hand ≡ test h
  wants_own test = ap (wants test) own

  pub trace_ok_of : can_load s a Trace ≡ true → IsCoreOk (core_loaded s a Trace)
  trace_ok_of can =
      elim (cases_Bool (wants (λ g. wants_key g.part a) s.mutator.hand)) [
        | inl key ↦
            subst (λ m. IsCoreOk (record s { mutator = m }))
            (sym (cond-true (wants (λ g. wants_key g.part a) s.mutator.hand) by_key by_word key))
            (subst (λ o. IsCoreOk (turned_state s a (each_hand (hand_looked s.types word) o) (s.mutator.noted ++ noted_pair word o))) (sym own)
            (trace_by_key (sym (wants_own (λ g. wants_key g.part a)) ∙ key)))
        | inr no_key ↦
            (let want : wants_word h h.part a ≡ true =
            elim (or_cases (wants_word h h.part a) (wants_key h.part a) (sym (wants_own (λ g. wants_word g g.part a || wants_key g.part a)) ∙ can)) [
              | inl w ↦ w
              | inr k ↦ absurd (both_ways (wants_key h.part a) (sym (wants_own (λ g. wants_key g.part a)) ∙ no_key) k)
            ] in
            subst (λ m. IsCoreOk (record s { mutator = m }))
            (sym (cond-false (wants (λ g. wants_key g.part a) s.mutator.hand) by_key by_word no_key))
            (subst (λ o. IsCoreOk (turned_state s a (each_hand (hand_read s.types word) o) s.mutator.noted)) (sym own) (trace_by_word want)))
      ]

pub trace_ok : (s : CoreState) → IsCoreOk s → (a : ℕ) → can_load s a Trace ≡ true → IsCoreOk (core_loaded s a Trace)
trace_ok s ok a can = elim (hand_or_none s.mutator.hand) [
  | inl none ↦
      absurd (false≢true (sym (ap (wants (λ g. wants_word g g.part a || wants_key g.part a)) none) ∙ can))
  | inr some ↦ elim (cases_Bool s.mutator.on) [
    | inl on ↦ trace_ok_of s ok on a some.0 some.1 can
    | inr off ↦ (let none : None ≡ Some some.0 = sym (ok.quiet_while_off.no_hand off) ∙ some.1 in cc)
  ]
]
