-- The object that is published: what the test tells of it.
use Rattle.std.proofs.Common.{◌≡◌, ◌≢◌, ℕ, ◌+◌, ◌-◌, ◌<◌, ◌≤◌, ◌^◌, List, length, get_or, drop, Bool, true, false, not, ◌&&◌, ◌||◌, eqb, leb, ltb, min, sym, ap, ◌∙◌, inl, inr, arith, Contains}
use mathlib.Core.Logic.{◌⊎◌}
use Rattle.std.specs.List.{list_any, list_all, range_with_len}
use Rattle.std.proofs.lemmas.Bool.{cases_lt, both_ways, and_parts, and_cases, not-true, or_cases, eqb-true, eq-eqb, ltb-true, ltb-false, leb-true}
use Rattle.std.proofs.lemmas.List.{length-take, length-drop, get_or-take, get_or-drop, get_or_past}
use Rattle.object_headers.specs.Layout.{header_word}
use Rattle.marker_core.specs.declared.states.Body.{Body}
use Rattle.marker_core.specs.declared.states.CoreState.{CoreState}
use Rattle.marker_core.specs.Bodies.{field_word_count, kinds_of_type, refers, word_in, role_in, end_of, is_place}
use Rattle.marker_core.specs.MutatorSteps.{body_at, is_in_free_words, can_publish}
use Rattle.marker_core.specs.SeatSteps.{overlaps, is_whole_object, is_new_serial}
use Rattle.marker_core.specs.Matching.{IsWhole}
use Rattle.marker_core.specs.Core.{IsCoreOk}
use Rattle.marker_core.proofs.Members.{none_passes, all_member}
use Rattle.gc_graph.specs.Members.{below_ranged}
use Rattle.marker_core.proofs.Apart.{body_of_place, two_words}

module _ (s : CoreState) (ok : IsCoreOk s) (a : ℕ) (can : can_publish s a ≡ true) where
  abbrev new : Body
  new = body_at s.words a

  abbrev header : ℕ
  header = get_or s.words a 0

  abbrev bodies : List Body
  bodies = s.mutator.bodies

  whole_object : is_whole_object s.types header new ≡ true
  whole_object = (and_parts (is_whole_object s.types header new) (is_in_free_words s new) (and_parts (is_whole_object s.types header new && is_in_free_words s new) (is_new_serial bodies new.serial) can).0).0

  free_words : is_in_free_words s new ≡ true
  free_words = (and_parts (is_whole_object s.types header new) (is_in_free_words s new) (and_parts (is_whole_object s.types header new && is_in_free_words s new) (is_new_serial bodies new.serial) can).0).1

  new_serial : is_new_serial bodies new.serial ≡ true
  new_serial = (and_parts (is_whole_object s.types header new && is_in_free_words s new) (is_new_serial bodies new.serial) can).1

  record Tells : Type 0 where
    header_is : header ≡ header_word true false false new.ty new.size
    ty : new.ty < length s.types
    room : 2 + field_word_count (kinds_of_type s.types new.ty) ≤ new.size
    size : new.size < 2 ^ 26
    nulls : list_all (λ i. not (refers (role_in s.types new i)) || eqb (word_in new i) 0) (range_with_len 0 (length new.fields)) ≡ true

  tells : Tells
  tells =
      let t4 = and_parts _ _ whole_object in
      let t3 = and_parts _ _ t4.0 in
      let t2 = and_parts _ _ t3.0 in
      let t1 = and_parts (eqb header (header_word true false false new.ty new.size)) (ltb new.ty (length s.types)) t2.0 in
      record {
        header_is = eqb-true header (header_word true false false new.ty new.size) t1.0;
        ty = ltb-true new.ty (length s.types) t1.1;
        room = leb-true (2 + field_word_count (kinds_of_type s.types new.ty)) new.size t2.1;
        size = ltb-true new.size (2 ^ 26) t3.1;
        nulls = t4.1;
      }

  pub header_tells : header ≡ header_word true false false new.ty new.size
  header_tells = tells.header_is

  abbrev inside_and_free : Bool
  inside_and_free = leb (end_of new) s.count && not (list_any (overlaps new) bodies)

  abbrev are_filled : Bool
  are_filled = list_all
      (λ i. list_any (λ (f : ℕ × ℕ). eqb f.0 (new.place + i) && eqb f.1 (get_or s.words (new.place + i) 0)) s.mutator.filled)
      (range_with_len 0 new.size)

  inside : end_of new ≤ s.count
  inside =
      leb-true (end_of new) s.count (and_parts (leb (end_of new) s.count) (not (list_any (overlaps new) bodies)) (and_parts inside_and_free are_filled free_words).0).0

  none_overlaps : list_any (overlaps new) bodies ≡ false
  none_overlaps =
      not-true (list_any (overlaps new) bodies) (and_parts (leb (end_of new) s.count) (not (list_any (overlaps new) bodies)) (and_parts inside_and_free are_filled free_words).0).1

  pub two : 2 ≤ new.size
  two = let t = tells in omega (arith, t.room)

  pub a_below : a < s.count
  a_below = omega (arith, inside, two)

  pub object_is_inside : end_of new ≤ s.count
  object_is_inside = inside

  pub object_is_small : new.size < 2 ^ 26
  object_is_small = tells.size

  pub serial_is_small : new.serial < 2 ^ 32
  serial_is_small =
      ltb-true new.serial (2 ^ 32)
      (and_parts (ltb new.serial (2 ^ 32)) (not (list_any (λ (c : Body). eqb c.serial new.serial) bodies)) new_serial).0

  fields_long : length new.fields + 2 ≡ new.size
  fields_long =
      let long : length new.fields ≡ min (a + new.size - (a + 2)) (length s.words - (a + 2)) =
      length-take (a + new.size - (a + 2)) (drop (a + 2) s.words) ∙ ap (min (a + new.size - (a + 2))) (length-drop (a + 2) s.words)
      in
      omega (arith, long, inside, two, ok.has_room.length_is)

  pub new_is_whole : IsWhole s.count s.types new
  new_is_whole = record { ty = tells.ty; room = tells.room; size = tells.size; inside = inside; fields = fields_long }

  -- the words of the new body are those that were filled
  pub new_field : (i : ℕ) → i < length new.fields → get_or s.words (a + 2 + i) 0 ≡ word_in new i
  new_field i within =
      let long = fields_long in
      sym (get_or-take (a + new.size - (a + 2)) (drop (a + 2) s.words) i 0 (omega arith) ∙ get_or-drop (a + 2) s.words i 0)

  -- its references are null
  pub new_null : (i : ℕ) → refers (role_in s.types new i) ≡ true → word_in new i ≡ 0
  new_null i r = elim (cases_lt i (length new.fields)) [
    | inr past ↦ get_or_past new.fields i 0 past
    | inl within ↦
        (let test = all_member (λ j. not (refers (role_in s.types new j)) || eqb (word_in new j) 0) (range_with_len 0 (length new.fields)) i tells.nulls
        (below_ranged (length new.fields) i within)
        in
        elim (or_cases (not (refers (role_in s.types new i))) (eqb (word_in new i) 0) test) [
          | inl no_reference ↦ absurd (both_ways (refers (role_in s.types new i)) (not-true (refers (role_in s.types new i)) no_reference) r)
          | inr null ↦ eqb-true (word_in new i) 0 null
        ])
  ]

  pub apart_from_new : (b : Body) → Contains bodies b → (end_of b ≤ new.place) ⊎ (end_of new ≤ b.place)
  apart_from_new b h =
      elim (and_cases (ltb new.place (end_of b)) (ltb b.place (end_of new)) (none_passes (overlaps new) bodies b none_overlaps h)) [
        | inl before ↦ inl (ltb-false new.place (end_of b) before)
        | inr after ↦ inr (ltb-false b.place (end_of new) after)
      ]

  pub serial_differs : (b : Body) → Contains bodies b → b.serial ≢ new.serial
  serial_differs b h e =
      let none = not-true (list_any (λ (c : Body). eqb c.serial new.serial) bodies)
      (and_parts (ltb new.serial (2 ^ 32)) (not (list_any (λ (c : Body). eqb c.serial new.serial) bodies)) new_serial).1
      in
      both_ways (eqb b.serial new.serial) (none_passes (λ (c : Body). eqb c.serial new.serial) bodies b none h) (eq-eqb b.serial new.serial e)

  -- no body is there yet
  pub no_place_yet : is_place bodies a ≡ true → ⊥
  no_place_yet at =
      let b = body_of_place bodies a at in
      let size = two_words s.count s.types bodies ok.bodies_are_whole b.0 b.1 in
      let own = two in
      elim (apart_from_new b.0 b.1) [ inl before ↦ omega (arith, b.2) | inr after ↦ omega (arith, b.2) ]
