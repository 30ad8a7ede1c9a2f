-- A dead object is retracted: what is true of every state stays.
use Rattle.std.proofs.Common.{◌≡◌, ◌≢◌, ℕ, ◌+◌, ◌-◌, ◌<◌, ◌≤◌, List, length, filter, Bool, true, false, not, ◌&&◌, eqb, sym, ap, ◌∙◌, subst, inl, inr, arith, Contains}
use mathlib.Core.Logic.{◌⊎◌}
use Rattle.std.specs.List.{list_any, range_with_len}
use Rattle.std.proofs.lemmas.Bool.{cases_Bool, cases_eq, both_ways, and_parts, and_from, not-true, not_from_false, eqb-false, eq-eqb, ne_eqb, or_left, or_right, or_cases, false_from_ne_true}
use Rattle.std.proofs.lemmas.List.Kept.{AllPairs-filter}
use Rattle.marker_core.specs.declared.states.Body.{Body}
use Rattle.marker_core.specs.declared.states.CoreState.{CoreState}
use Rattle.marker_core.specs.Bodies.{refers, word_in, role_in, end_of, body_has_word, is_place, in_body, names_body, refers_to, holds, without}
use Rattle.marker_core.specs.Layout.{is_start}
use Rattle.marker_core.specs.MutatorSteps.{can_retract, core_retracted}
use Rattle.marker_core.specs.Views.{marks_at}
use Rattle.marker_core.specs.Core.{IsCoreOk}
use Rattle.marker_core.proofs.Members.{none_passes, none_from}
use Rattle.gc_graph.specs.Members.{any_from, was_in, has_passed, stays_in, removed_is_not_held, others_held_after_removal, below_ranged}
use Rattle.marker_core.proofs.Apart.{body_of_place, place_of_body, place_below}
use Rattle.marker_core.proofs.Turns.{within_fields}
use Rattle.marker_core.proofs.Quiet.{hands_of_none}
use Rattle.marker_core.proofs.StartBits.{Besides, bitmap_written, start_is_cleared, other_start_cleared}

abbrev is_elsewhere : ℕ → Body → Bool
is_elsewhere a b = not (eqb b.place a)

module _ (s : CoreState) (ok : IsCoreOk s) (a : ℕ) (off : s.mutator.on ≡ false) (dead : holds s.mutator.dead a ≡ true) (unnamed : list_any (λ b. not (holds s.mutator.dead b.place) && refers_to s.types a b) s.mutator.bodies ≡ false) where
  abbrev bodies : List Body
  bodies = s.mutator.bodies

  abbrev now : List Body
  now = filter (is_elsewhere a) bodies

  was_body : (b : Body) → Contains now b → Contains bodies b
  was_body b h = was_in (is_elsewhere a) bodies b h

  apart_from : (b : Body) → Contains now b → (b.place ≡ a → ⊥)
  apart_from b h = eqb-false b.place a (not-true (eqb b.place a) (has_passed (is_elsewhere a) bodies b h))

  place_was : (x : ℕ) → is_place now x ≡ true → is_place bodies x ≡ true
  place_was x at = let b = body_of_place now x at in place_of_body bodies b.0 x (was_body b.0 b.1) b.2

  place_stays : (x : ℕ) → is_place bodies x ≡ true → (x ≡ a → ⊥) → is_place now x ≡ true
  place_stays x at other =
      let b = body_of_place bodies x at in
      let passes = not_from_false (eqb b.0.place a) (ne_eqb b.0.place a (λ e. other (sym b.2 ∙ e))) in
      place_of_body now b.0 x (stays_in (is_elsewhere a) bodies b.0 b.1 passes) b.2

  place_gone : is_place now a ≡ false
  place_gone = false_from_ne_true (is_place now a) (λ at. let b = body_of_place now a at in apart_from b.0 b.1 b.2)

  place_same : (x : ℕ) → (x ≡ a → ⊥) → is_place now x ≡ is_place bodies x
  place_same x other = elim (cases_Bool (is_place bodies x)) [
    | inl at ↦ place_stays x at other ∙ sym at
    | inr no_place ↦ false_from_ne_true (is_place now x) (λ at. both_ways (is_place bodies x) no_place (place_was x at)) ∙ sym no_place
  ]

  abbrev unmarked : (is_place bodies a ≡ true) × (marks_at s.mutator s.markers a ≡ 0)
  unmarked = ok.marks_counted_once.dead_are_unmarked a dead

  dead_was : (x : ℕ) → holds (without s.mutator.dead a) x ≡ true → (holds s.mutator.dead x ≡ true) × (x ≡ a → ⊥)
  dead_was x held = elim (cases_eq x a) [
    | inl same ↦
        absurd (both_ways (holds (without s.mutator.dead a) x)
        (ap (holds (without s.mutator.dead a)) same ∙ removed_is_not_held s.mutator.dead a) held)
    | inr other ↦ (sym (others_held_after_removal s.mutator.dead a x other) ∙ held, other)
  ]

  -- what a body that isn't dead names is still there
  still_named : (b : Body) (i : ℕ) → Contains now b → holds (without s.mutator.dead a) b.place ≡ false → refers (role_in s.types b i) ≡ true
      → names_body now (word_in b i) ≡ true
  still_named b i h alive r =
      let there = was_body b h in
      let was_alive : holds s.mutator.dead b.place ≡ false = sym (others_held_after_removal s.mutator.dead a b.place (apart_from b h)) ∙ alive in
      let names = ok.references_name_bodies b i there was_alive r in
      let inside = within_fields s.count s.types b i (ok.bodies_are_whole b there) r in
      elim (or_cases (eqb (word_in b i) 0) (is_place bodies (word_in b i - 1)) names) [
        | inl null ↦ or_left (eqb (word_in b i) 0) (is_place now (word_in b i - 1)) null
        | inr at ↦ elim (cases_eq (word_in b i) 0) [
          | inl null ↦ or_left (eqb (word_in b i) 0) (is_place now (word_in b i - 1)) (eq-eqb (word_in b i) 0 null)
          | inr some ↦ or_right (eqb (word_in b i) 0) (is_place now (word_in b i - 1)) (place_stays (word_in b i - 1) at (λ e.
              let word : word_in b i ≡ a + 1 = omega arith in
              both_ways (not (holds s.mutator.dead b.place) && refers_to s.types a b)
              (none_passes (λ c. not (holds s.mutator.dead c.place) && refers_to s.types a c) bodies b unnamed there)
              (and_from (not (holds s.mutator.dead b.place)) (refers_to s.types a b) (not_from_false (holds s.mutator.dead b.place) was_alive)
              (any_from (λ j. refers (role_in s.types b j) && eqb (word_in b j) (a + 1)) (range_with_len 0 (length b.fields)) i
              (below_ranged (length b.fields) i inside)
              (and_from (refers (role_in s.types b i)) (eqb (word_in b i) (a + 1)) r (eq-eqb (word_in b i) (a + 1) word))))))
        ]
      ]

  pub retracted_state : IsCoreOk (core_retracted s a)
  retracted_state =
      let below : a < s.count = place_below s.count s.types bodies a ok.bodies_are_whole unmarked.0 in
      let words : Besides s (core_retracted s a).words = bitmap_written s ok a _ below in
      record {
        are_types = ok.are_types;
        has_room = words.room;
        bodies_are_whole = λ b h. ok.bodies_are_whole b (was_body b h);
        bodies_lie_apart = AllPairs-filter (λ (b c : Body). (end_of b ≤ c.place) ⊎ (end_of c ≤ b.place)) (is_elsewhere a) bodies ok.bodies_lie_apart;
        serials_differ = AllPairs-filter (λ (b c : Body). b.serial ≢ c.serial) (is_elsewhere a) bodies ok.serials_differ;
        headers_match = λ b h. words.headers b (was_body b h);
        serials_match = λ b h. words.serials b (was_body b h);
        starts_match = λ p inside. elim (cases_eq p a) [
          | inl same ↦
              subst (λ x. is_start s.count (core_retracted s a).words x ≡ is_place now x) (sym same)
              (start_is_cleared s ok a below ∙ sym place_gone)
          | inr other ↦ other_start_cleared s ok a below p other ∙ ok.starts_match p inside ∙ sym (place_same p other)
        ];
        fields_match = λ b i h. words.fields b i (was_body b h);
        filled_match = record {
          inside = words.filled.inside;
          outside = λ f h. none_from (body_has_word f.0) now (λ b hb has.
              both_ways (in_body bodies f.0) (words.filled.outside f h) (any_from (body_has_word f.0) bodies b (was_body b hb) has));
          word = words.filled.word;
          once = words.filled.once;
        };
        references_name_bodies = still_named;
        quiet_while_off = record {
          no_pending = ok.quiet_while_off.no_pending;
          no_hand = ok.quiet_while_off.no_hand;
          no_views = ok.quiet_while_off.no_views;
          no_dead = λ on. absurd (both_ways s.mutator.on off on);
          lent_views = ok.quiet_while_off.lent_views;
          spent_views = ok.quiet_while_off.spent_views;
          halted_views = λ v h halted. words.stop ∙ ok.quiet_while_off.halted_views v h halted;
        };
        traced_are_marked = ok.traced_are_marked;
        marks_counted_once = record {
          once = ok.marks_counted_once.once;
          are_bodies = λ x some.
              place_stays x (ok.marks_counted_once.are_bodies x some)
              (λ same. let none : marks_at s.mutator s.markers x ≡ 0 = ap (marks_at s.mutator s.markers) same ∙ unmarked.1 in omega arith);
          dead_are_unmarked = λ x held.
              let was = dead_was x held in
              let fact = ok.marks_counted_once.dead_are_unmarked x was.0 in
              (place_stays x fact.0 was.1, fact.1);
        };
        strong_targets_accounted = λ on. absurd (both_ways s.mutator.on off on);
        pairs_accounted = λ on. absurd (both_ways s.mutator.on off on);
        noted_are_pairs = λ on. absurd (both_ways s.mutator.on off on);
        hands_are_bodies =
            hands_of_none s ok (ok.quiet_while_off.no_views off) s.types now (marks_at s.mutator s.markers) s.mutator.pending s.mutator.may
            (ok.quiet_while_off.no_hand off);
        may_is_closed = λ on. absurd (both_ways s.mutator.on off on);
      }

pub retract_ok : (s : CoreState) → IsCoreOk s → (a : ℕ) → can_retract s a ≡ true → IsCoreOk (core_retracted s a)
retract_ok s ok a can =
    let some = list_any (λ b. not (holds s.mutator.dead b.place) && refers_to s.types a b) s.mutator.bodies in
    let tests = and_parts (not s.mutator.on && holds s.mutator.dead a) (not some) can in
    let more = and_parts (not s.mutator.on) (holds s.mutator.dead a) tests.0 in
    retracted_state s ok a (not-true s.mutator.on more.0) more.1 (not-true some tests.1)
