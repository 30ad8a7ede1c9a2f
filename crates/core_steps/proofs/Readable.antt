-- When the words from an address on can be an object.
use Rattle.std.proofs.Common.{◌≡◌, ℕ, ◌+◌, ◌<◌, ◌≤◌, ◌^◌, get_or, true, false, not, ◌&&◌, eqb, leb, ltb, sym, ap, ◌∙◌, inl, inr, arith}
use mathlib.Core.Logic.{◌⊎◌}
use Rattle.std.specs.List.{list_any}
use Rattle.std.proofs.lemmas.Bool.{lt-ltb, ltb-true, leb-true, and_parts, false_from_ne_true}
use Rattle.marker_core.specs.declared.states.Body.{Body}
use Rattle.marker_core.specs.declared.states.CoreState.{CoreState}
use Rattle.marker_core.specs.Layout.{size_in}
use Rattle.marker_core.specs.Bodies.{field_word_count, kinds_of_type, end_of}
use Rattle.marker_core.specs.MutatorSteps.{body_at, is_in_free_words, can_publish}
use Rattle.marker_core.specs.SeatSteps.{overlaps, is_whole_object, is_new_serial}

-- what the test of a publication tells of the numbers
record InRange (s : CoreState) (b : Body) : Type 0 where
  two : 2 ≤ b.size
  small : b.size < 2 ^ 26
  serial : b.serial < 2 ^ 32
  inside : end_of b ≤ s.count

two_at_least : (words size : ℕ) → 2 + words ≤ size → 2 ≤ size
two_at_least words size room = omega arith

in_range : (s : CoreState) (a : ℕ) → can_publish s a ≡ true → InRange s (body_at s.words a)
in_range s a can =
    let b = body_at s.words a in
    let header = get_or s.words a 0 in
    let all = and_parts (is_whole_object s.types header b && is_in_free_words s b) (is_new_serial s.mutator.bodies b.serial) can in
    let both = and_parts (is_whole_object s.types header b) (is_in_free_words s b) all.0 in
    let w4 = and_parts _ _ both.0 in
    let w3 = and_parts _ _ w4.0 in
    let w2 = and_parts _ _ w3.0 in
    let f2 = and_parts _ _ both.1 in
    let f1 = and_parts (leb (end_of b) s.count) (not (list_any (overlaps b) s.mutator.bodies)) f2.0 in
    record {
      two = two_at_least (field_word_count (kinds_of_type s.types b.ty)) b.size (leb-true (2 + field_word_count (kinds_of_type s.types b.ty)) b.size w2.1);
      small = ltb-true b.size (2 ^ 26) w3.1;
      serial = ltb-true b.serial (2 ^ 32) (and_parts (ltb b.serial (2 ^ 32)) (not (list_any (λ (c : Body). eqb c.serial b.serial) s.mutator.bodies)) all.1).0;
      inside = leb-true (end_of b) s.count f1.0;
    }

-- where the numbers are out of range nothing can be published
pub readable : (s : CoreState) (a : ℕ)
    → (size_in (get_or s.words a 0) < 2) ⊎ ((2 ^ 26 ≤ size_in (get_or s.words a 0)) ⊎ ((2 ^ 32 ≤ get_or s.words (a + 1) 0) ⊎ (s.count < a + size_in (get_or s.words a 0))))
    → can_publish s a ≡ false
readable s a out = false_from_ne_true (can_publish s a) (λ can. let tells = in_range s a can in elim out [
  | inl small ↦ omega (arith, tells.two)
  | inr more ↦ elim more [
    | inl large ↦ omega (arith, tells.small)
    | inr rest ↦ elim rest [
      | inl serial ↦ omega (arith, tells.serial)
      | inr past ↦ omega (arith, tells.inside)
    ]
  ]
])

-- where they are in range the tests decide
pub publishable : (s : CoreState) (a : ℕ) (b : Body) → b ≡ body_at s.words a → b.serial < 2 ^ 32
    → (is_whole_object s.types (get_or s.words a 0) b && is_in_free_words s b && not (list_any (λ (c : Body). eqb c.serial b.serial) s.mutator.bodies))
    ≡ can_publish s a
publishable s a b is small =
    ap (λ t. is_whole_object s.types (get_or s.words a 0) b && is_in_free_words s b && (t && not (list_any (λ (c : Body). eqb c.serial b.serial) s.mutator.bodies)))
    (sym (lt-ltb b.serial (2 ^ 32) small))
    ∙ ap (λ c. is_whole_object s.types (get_or s.words a 0) c && is_in_free_words s c && is_new_serial s.mutator.bodies c.serial) is
