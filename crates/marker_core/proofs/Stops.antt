-- The stop word is written: what is true of every state stays, where marking begins, goes on, or ends.
use Rattle.std.proofs.Common.{◌≡◌, ℕ, ◌+◌, ◌%◌, ◌≤◌, List, [], length, get_or, set, true, false, not, cond, eqb, ltb, Some, None, refl, sym, ap, ◌∙◌, subst, inl, inr, arith, Contains}
use mathlib.Core.Logic.{◌↔◌}
use Rattle.std.specs.List.{count_by, list_all, range_with_len, sum_by}
use Rattle.std.specs.Option.{is_none}
use Rattle.std.proofs.lemmas.Bool.{cases_Bool, cond-true, cond-false, both_ways, and_parts, not-true, eqb-true, eq-eqb, false≢true, true_from_ne_false}
use Rattle.std.proofs.lemmas.List.{get_or-set_same, get_or-set_other, nil_from_length}
use Rattle.std.proofs.lemmas.List.Sums.{get_or-le-sum_by}
use Rattle.gc_graph.specs.Reach.{ReachIsLeast}
use Rattle.marker_core.specs.declared.states.Body.{Body}
use Rattle.marker_core.specs.declared.states.CoreState.{CoreState}
use Rattle.marker_core.specs.declared.states.Hand.{Hand}
use Rattle.marker_core.specs.declared.states.MarkerView.{MarkerView}
use Rattle.marker_core.specs.declared.states.Role.{Role}
use Rattle.marker_core.specs.declared.states.Role.TheVariants.{StrongWord, WeakWord, KeyWord, ValueWord, PlainWord}
use Rattle.marker_core.specs.Layout.{stop_at, bitmap_at, bit_is_set, is_marked}
use Rattle.marker_core.specs.Bodies.{word_in, role_in, refers, places, is_place, holds}
use Rattle.marker_core.specs.Closed.{reach_over}
use Rattle.marker_core.specs.Views.{times, marks_at, traces_at, IsHand, IsNoted}
use Rattle.marker_core.specs.CycleSteps.{can_begin, core_begun, core_stopped, ends, can_end, core_unmarked_places, core_ended}
use Rattle.marker_core.specs.SeatSteps.{pair_is_whole, pairs_are_whole}
use Rattle.marker_core.specs.Core.{IsCoreOk}
use Rattle.marker_core.specs.Laws.{AllNameBodies, IsLeastOver}
use Rattle.marker_core.proofs.Members.{nothing_in, all_member}
use Rattle.gc_graph.specs.Members.{in_from_holds, was_in, has_passed, Contains-map_some, below_ranged}
use Rattle.marker_core.proofs.Apart.{place_of_body}
use Rattle.marker_core.proofs.Counts.{false_is_none}
use Rattle.marker_core.proofs.Headers.{mark_tells}
use Rattle.marker_core.proofs.Frames.{room_kept, headers_kept, serials_kept, fields_kept, filled_kept, heads_before, tails_before}
use Rattle.marker_core.proofs.Reached.{reach_over_law}
use Rattle.marker_core.proofs.Rewords.{Rewords}
use Rattle.marker_core.proofs.Turns.{within_fields}
use Rattle.marker_core.proofs.Claims.{is_none_tells}
use Rattle.marker_core.proofs.Quiet.{no_marks, no_traces, no_hands, nothing_noted, nothing_done, hands_of_none}

-- what belongs to the words after the stop word is written, but for itself
record StopWritten (s : CoreState) (w : ℕ) : Type 0 where
  rewords : Rewords (record s { words = set s.words (stop_at s.count) w }) (set s.words (stop_at s.count) w) (marks_at s.mutator s.markers) (traces_at s.mutator s.markers)
  word : get_or (set s.words (stop_at s.count) w) (stop_at s.count) 0 ≡ w

stop_written : (s : CoreState) → IsCoreOk s → (w : ℕ) → StopWritten s w
stop_written s ok w =
    let at = stop_at s.count in
    let now = set s.words at w in
    let bodies = s.mutator.bodies in
    let past : s.count ≤ at = omega arith in
    let bits = ok.has_room.bits in
    record {
      rewords = record {
        room = room_kept s.count s.words at w ok.has_room;
        headers =
            headers_kept s.count s.types s.words now bodies ok.bodies_are_whole (marks_at s.mutator s.markers) (traces_at s.mutator s.markers)
            (heads_before s.count s.types s.words bodies ok.bodies_are_whole at w past) ok.headers_match;
        serials =
            serials_kept s.count s.types s.words now bodies ok.bodies_are_whole
            (tails_before s.count s.types s.words bodies ok.bodies_are_whole at w past) ok.serials_match;
        starts = λ a below.
            ap (λ x. bit_is_set x (a % 64)) (get_or-set_other s.words at (bitmap_at s.count a) w 0 (λ e. omega arith)) ∙ ok.starts_match a below;
        fields =
            fields_kept s.count s.types s.words now bodies ok.bodies_are_whole
            (tails_before s.count s.types s.words bodies ok.bodies_are_whole at w past) ok.fields_match;
        filled =
            filled_kept s.count s.words bodies s.mutator.filled at w
            (λ f h e. let inside = ok.filled_match.inside f h in omega arith) ok.filled_match;
        stop = refl;
      };
      word = get_or-set_same s.words at w 0 (omega (arith, ok.has_room.length_is));
    }

-- ---- the markers are told to stop

pub stopped_ok : (s : CoreState) → IsCoreOk s → IsCoreOk (core_stopped s)
stopped_ok s ok =
    let written = stop_written s ok 1 in
    record {
      are_types = ok.are_types;
      has_room = written.rewords.room;
      bodies_are_whole = ok.bodies_are_whole;
      bodies_lie_apart = ok.bodies_lie_apart;
      serials_differ = ok.serials_differ;
      headers_match = written.rewords.headers;
      serials_match = written.rewords.serials;
      starts_match = written.rewords.starts;
      fields_match = written.rewords.fields;
      filled_match = written.rewords.filled;
      references_name_bodies = ok.references_name_bodies;
      quiet_while_off = record {
        no_pending = ok.quiet_while_off.no_pending;
        no_hand = ok.quiet_while_off.no_hand;
        no_views = ok.quiet_while_off.no_views;
        no_dead = ok.quiet_while_off.no_dead;
        lent_views = ok.quiet_while_off.lent_views;
        spent_views = ok.quiet_while_off.spent_views;
        halted_views = λ v h halted. written.word;
      };
      traced_are_marked = ok.traced_are_marked;
      marks_counted_once = ok.marks_counted_once;
      strong_targets_accounted = ok.strong_targets_accounted;
      pairs_accounted = ok.pairs_accounted;
      noted_are_pairs = ok.noted_are_pairs;
      hands_are_bodies = ok.hands_are_bodies;
      may_is_closed = ok.may_is_closed;
    }

-- ---- where no view is lent each view is spent

abbrev is_out : MarkerView → ℕ
is_out v = cond (not v.spent) 1 0

none_counted : (views : List MarkerView) (v : MarkerView) → count_by (λ (w : MarkerView). not w.spent) views ≡ 0 → Contains views v → v.spent ≡ true
none_counted views v none h = true_from_ne_false v.spent (λ out.
    let one : is_out (get_or views h.0 v) ≡ 1 = ap is_out h.2 ∙ ap (λ b. cond (not b) 1 0) out in
    let least : is_out (get_or views h.0 v) ≤ count_by (λ (w : MarkerView). not w.spent) views = get_or-le-sum_by is_out views h.0 v h.1 in
    omega (arith, none, one, least))

pub all_spent : (s : CoreState) → IsCoreOk s → s.mutator.lent ≡ 0 → (v : MarkerView) → Contains s.markers v → v.spent ≡ true
all_spent s ok none v h = none_counted s.markers v (sym ok.quiet_while_off.lent_views ∙ none) h

-- ---- marking ends

module _ (s : CoreState) (ok : IsCoreOk s) (on : s.mutator.on ≡ true) (lent : s.mutator.lent ≡ 0) (no_hand : s.mutator.hand ≡ None) (no_pending : s.mutator.pending ≡ None) where
  abbrev spent : (v : MarkerView) → Contains s.markers v → v.spent ≡ true
  spent = all_spent s ok lent

  -- what is dead then is an unmarked body
  dead_unmarked : (a : ℕ) → holds (core_unmarked_places s) a ≡ true → (is_place s.mutator.bodies a ≡ true) × (marks_at s.mutator s.markers a ≡ 0)
  dead_unmarked a dead =
      let there = in_from_holds (core_unmarked_places s) a dead in
      let body = Contains-map_some (λ (b : Body). b.place) s.mutator.bodies a (was_in (λ p. not (is_marked s.words p)) (places s.mutator.bodies) a there) in
      let unmarked = not-true (is_marked s.words a) (has_passed (λ p. not (is_marked s.words p)) (places s.mutator.bodies) a there) in
      let tells = mark_tells s.words (marks_at s.mutator s.markers) (traces_at s.mutator s.markers) s.mutator.bodies ok.headers_match body.0 body.1 in
      let none : ltb 0 (marks_at s.mutator s.markers body.0.place) ≡ false = sym tells ∙ ap (is_marked s.words) body.2 ∙ unmarked in (
        place_of_body s.mutator.bodies body.0 a body.1 body.2,
        ap (marks_at s.mutator s.markers) (sym body.2) ∙ false_is_none (marks_at s.mutator s.markers body.0.place) none,
      )

  pub ended_state : IsCoreOk (core_ended s)
  ended_state =
      let written = stop_written s ok 1 in
      record {
        are_types = ok.are_types;
        has_room = written.rewords.room;
        bodies_are_whole = ok.bodies_are_whole;
        bodies_lie_apart = ok.bodies_lie_apart;
        serials_differ = ok.serials_differ;
        headers_match = written.rewords.headers;
        serials_match = written.rewords.serials;
        starts_match = written.rewords.starts;
        fields_match = written.rewords.fields;
        filled_match = written.rewords.filled;
        references_name_bodies = λ b i h alive r.
            ok.references_name_bodies b i h (ap (λ dead. holds dead b.place) (ok.quiet_while_off.no_dead on)) r;
        quiet_while_off = record {
          no_pending = λ _. no_pending;
          no_hand = λ _. no_hand;
          no_views = λ _. spent;
          no_dead = λ e. absurd (false≢true e);
          lent_views = ok.quiet_while_off.lent_views;
          spent_views = ok.quiet_while_off.spent_views;
          halted_views = λ v h halted. written.word;
        };
        traced_are_marked = ok.traced_are_marked;
        marks_counted_once = record {
          once = ok.marks_counted_once.once;
          are_bodies = ok.marks_counted_once.are_bodies;
          dead_are_unmarked = dead_unmarked;
        };
        strong_targets_accounted = λ e. absurd (false≢true e);
        pairs_accounted = λ e. absurd (false≢true e);
        noted_are_pairs = λ e. absurd (false≢true e);
        hands_are_bodies = hands_of_none s ok spent s.types s.mutator.bodies (marks_at s.mutator s.markers) s.mutator.pending [] no_hand;
        may_is_closed = λ e. absurd (false≢true e);
      }

pub end_ok : (s : CoreState) → IsCoreOk s → ends s ≡ true → can_end s ≡ true → IsCoreOk (core_ended s)
end_ok s ok ending can =
    let tests = and_parts s.mutator.on (eqb s.mutator.lent 0) ending in
    let first = and_parts _ _ can in
    let second = and_parts _ _ first.0 in
    let third = and_parts (is_none s.mutator.hand) (is_none s.mutator.pending) second.0 in
    ended_state s ok tests.0 (eqb-true s.mutator.lent 0 tests.1) (is_none_tells s.mutator.hand third.0) (is_none_tells s.mutator.pending third.1)

-- ---- marking begins

whole_pair : (role : Role) (key value : ℕ) → role ≡ KeyWord → pair_is_whole role key value ≡ true → (key ≡ 0) ↔ (value ≡ 0)
whole_pair KeyWord key value e h = elim (cases_Bool (eqb key 0)) [
  | inl null ↦
      (λ _. eqb-true value 0 (sym (cond-true (eqb key 0) (eqb value 0) (not (eqb value 0)) null) ∙ h), λ _. eqb-true key 0 null)
  | inr some ↦
      (let other : eqb value 0 ≡ false = not-true (eqb value 0) (sym (cond-false (eqb key 0) (eqb value 0) (not (eqb value 0)) some) ∙ h) in
      (λ null. absurd (both_ways (eqb key 0) some (eq-eqb key 0 null)), λ null. absurd (both_ways (eqb value 0) other (eq-eqb value 0 null))))
]
whole_pair StrongWord key value e h = cc
whole_pair WeakWord key value e h = cc
whole_pair ValueWord key value e h = cc
whole_pair PlainWord key value e h = cc

module _ (s : CoreState) (ok : IsCoreOk s) (off : s.mutator.on ≡ false) (unmarked : s.mutator.marked ≡ []) (untraced : s.mutator.traced ≡ []) (unnoted : s.mutator.noted ≡ []) (no_dead : s.mutator.dead ≡ []) (whole : list_all (pairs_are_whole s.types) s.mutator.bodies ≡ true) (roots : List ℕ) where
  abbrev spent_now : (v : MarkerView) → Contains s.markers v → v.spent ≡ true
  spent_now = ok.quiet_while_off.no_views off

  none_marked : (x : ℕ) → marks_at s.mutator s.markers x ≡ 0
  none_marked x = ap (λ l. times x l + sum_by (λ v. times x v.marked) s.markers) unmarked ∙ omega (arith, no_marks s ok spent_now x)

  none_traced : (x : ℕ) → traces_at s.mutator s.markers x ≡ 0
  none_traced x = ap (λ l. times x l + sum_by (λ v. times x v.traced) s.markers) untraced ∙ omega (arith, no_traces s ok spent_now x)

  names_off : AllNameBodies s.types s.mutator.bodies
  names_off b i h r = ok.references_name_bodies b i h (ap (λ dead. holds dead b.place) no_dead) r

  both : (b : Body) (i : ℕ) → Contains s.mutator.bodies b → role_in s.types b i ≡ KeyWord → (word_in b i ≡ 0) ↔ (word_in b (i + 1) ≡ 0)
  both b i h role =
      let inside = within_fields s.count s.types b i (ok.bodies_are_whole b h) (ap refers role) in
      whole_pair (role_in s.types b i) (word_in b i) (word_in b (i + 1)) role
      (all_member (λ j. pair_is_whole (role_in s.types b j) (word_in b j) (word_in b (j + 1))) (range_with_len 0 (length b.fields)) i
      (all_member (pairs_are_whole s.types) s.mutator.bodies b whole h) (below_ranged (length b.fields) i inside))

  abbrev may : List ℕ
  may = reach_over s.count s.types s.mutator.bodies roots

  no_hands_yet : (h : Hand) → IsHand s.mutator s.markers h → ⊥
  no_hands_yet = no_hands s ok spent_now (ok.quiet_while_off.no_hand off)

  nothing_noted_yet : (p offset : ℕ) → IsNoted s.mutator s.markers p offset → ⊥
  nothing_noted_yet p offset note = elim note [
    | inl own ↦ nothing_in (p, offset) (subst (λ l. Contains l (p, offset)) unnoted own)
    | inr other ↦ nothing_noted s ok spent_now p offset other
  ]

  pub begun_state : IsLeastOver s.types s.mutator.bodies roots may → IsCoreOk (core_begun s roots)
  begun_state least =
      let written = stop_written s ok 0 in
      record {
        are_types = ok.are_types;
        has_room = written.rewords.room;
        bodies_are_whole = ok.bodies_are_whole;
        bodies_lie_apart = ok.bodies_lie_apart;
        serials_differ = ok.serials_differ;
        headers_match = written.rewords.headers;
        serials_match = written.rewords.serials;
        starts_match = written.rewords.starts;
        fields_match = written.rewords.fields;
        filled_match = written.rewords.filled;
        references_name_bodies = ok.references_name_bodies;
        quiet_while_off = record {
          no_pending = λ e. absurd (false≢true (sym e));
          no_hand = λ e. absurd (false≢true (sym e));
          no_views = λ e. absurd (false≢true (sym e));
          no_dead = λ _. no_dead;
          lent_views = ok.quiet_while_off.lent_views;
          spent_views = ok.quiet_while_off.spent_views;
          halted_views = λ v h halted.
              let emptied = ok.quiet_while_off.spent_views v h (spent_now v h) in
              absurd (both_ways v.halted emptied.halted halted);
        };
        traced_are_marked = ok.traced_are_marked;
        marks_counted_once = ok.marks_counted_once;
        strong_targets_accounted = λ _ b i h traced role. absurd (omega (arith, none_traced b.place));
        pairs_accounted = λ _ b i h traced role. absurd (omega (arith, none_traced b.place));
        noted_are_pairs = λ _ p offset note. absurd (nothing_noted_yet p offset note);
        hands_are_bodies =
            hands_of_none s ok spent_now s.types s.mutator.bodies (marks_at s.mutator s.markers) s.mutator.pending may
            (ok.quiet_while_off.no_hand off);
        may_is_closed = λ _. record {
          are_places = least.places;
          closed = least.closed;
          marked_in = λ a marked. absurd (omega (arith, none_marked a));
          hands_in = λ h held. absurd (no_hands_yet h held);
          loaded_in = λ h t held loaded. absurd (no_hands_yet h held);
          pending_in = λ t waits. let e : None ≡ Some t = sym (ok.quiet_while_off.no_pending off) ∙ waits in cc;
          values = λ b i h member role null some. absurd (omega (arith, (both b i h role).0 null));
          others = λ b i h out role. both b i h role;
          seen_are_marked = λ a seen. absurd (false≢true seen);
          done_are_traced = λ a done. elim done [
            | inl own ↦ absurd (false≢true own)
            | inr other ↦ absurd (nothing_done s ok spent_now a other)
          ];
        };
      }

pub begin_ok : ReachIsLeast → (s : CoreState) → IsCoreOk s → (roots : List ℕ) → can_begin s ≡ true → IsCoreOk (core_begun s roots)
begin_ok law s ok roots can =
    let t6 = and_parts _ _ can in
    let t5 = and_parts _ _ t6.0 in
    let t4 = and_parts _ _ t5.0 in
    let t3 = and_parts _ _ t4.0 in
    let t2 = and_parts _ _ t3.0 in
    let t1 = and_parts (not s.mutator.on) (eqb (length s.mutator.marked) 0) t2.0 in
    let off = not-true s.mutator.on t1.0 in
    let unmarked = nil_from_length s.mutator.marked (eqb-true (length s.mutator.marked) 0 t1.1) in
    let untraced = nil_from_length s.mutator.traced (eqb-true (length s.mutator.traced) 0 t2.1) in
    let unnoted = nil_from_length s.mutator.noted (eqb-true (length s.mutator.noted) 0 t3.1) in
    let no_dead = nil_from_length s.mutator.dead (eqb-true (length s.mutator.dead) 0 t4.1) in
    begun_state s ok off unmarked untraced unnoted no_dead t6.1 roots
    (reach_over_law law s.count s.types s.mutator.bodies roots ok.bodies_are_whole ok.bodies_lie_apart
    (names_off s ok off unmarked untraced unnoted no_dead t6.1 roots))
