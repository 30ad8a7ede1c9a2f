-- Two objects can be laid into a heap.
use Rattle.std.proofs.Common.{◌≡◌, ℕ, zero, suc, ◌+◌, ◌<◌, ◌≤◌, false, [], ◌∷◌, leb, ltb, refl, sym, ap, ◌∙◌, subst, inl, inr, arith, Contains}
use Rattle.std.proofs.lemmas.Bool.{and_parts, or_cases, ltb-true, false≢true, false_from_ne_true}
use Rattle.marker_core.specs.declared.states.Body.{Body}
use Rattle.marker_core.specs.Bodies.{word_in, body_has_word, in_body, IsPlace}
use Rattle.marker_core.specs.SeatLaws.{IsReadyToPublish}
use Rattle.page_words.specs.Seat.{Heap, SeatView, side, empty_view, stored, begun}
use Rattle.words_trials.specs.Objects.{strong_type, holder_at, filled_at, laid_at, two_objects}

-- before the first object, and before the second
abbrev pub new_heap : Heap → SeatView
new_heap heap = empty_view heap (strong_type ∷ [])

abbrev pub one_object : Heap → SeatView
one_object heap = laid_at (new_heap heap) 0

all_null : (place i : ℕ) → word_in (holder_at place) i ≡ 0
all_null place zero = refl
all_null place (suc i) = refl

first_fields : (heap : Heap) (i : ℕ) → i < 1 → Contains (filled_at (new_heap heap) 0).filled (2 + i, word_in (holder_at 0) i)
first_fields heap zero low = (0, omega arith, refl)
first_fields heap (suc i) low = absurd (omega (arith, low))

second_fields : (heap : Heap) (i : ℕ) → i < 1 → Contains (filled_at (one_object heap) 3).filled (5 + i, word_in (holder_at 3) i)
second_fields heap zero low = (0, omega arith, refl)
second_fields heap (suc i) low = absurd (omega (arith, low))

pub first_ready : (heap : Heap) → heap.count ≡ 256 → IsReadyToPublish (side (filled_at (new_heap heap) 0)) (holder_at 0)
first_ready heap count = record {
  header = (2, omega arith, refl);
  serial = (1, omega arith, refl);
  fields = first_fields heap;
  null = λ i low names. all_null 0 i;
  whole = record { ty = omega arith; room = omega arith; size = omega arith; inside = omega (arith, count); fields = refl };
  apart = λ a from until. refl;
  number = omega arith;
  unused = λ c there. absurd (omega (arith, there.1));
}

-- the first object has no word from 3 on, and another number
outside_first : (a : ℕ) → 3 ≤ a → in_body (holder_at 0 ∷ []) a ≡ false
outside_first a from = false_from_ne_true (in_body (holder_at 0 ∷ []) a) (λ is. elim (or_cases (body_has_word a (holder_at 0)) false is) [
  | inl has ↦ (let parts = and_parts (leb 0 a) (ltb a 3) has in omega (arith, ltb-true a 3 parts.1, from))
  | inr none ↦ absurd (false≢true none)
])

only_member : (b c : Body) → Contains (b ∷ []) c → b ≡ c
only_member b c (zero, low, e) = e
only_member b c (suc k, low, e) = absurd (omega (arith, low))

another_number : (c : Body) → Contains (holder_at 0 ∷ []) c → c.serial ≡ 10 → ⊥
another_number c there e =
    let seven : 7 ≡ c.serial = ap (λ (b : Body). b.serial) (only_member (holder_at 0) c there) in omega (arith, seven, e)

pub second_ready : (heap : Heap) → heap.count ≡ 256 → IsReadyToPublish (side (filled_at (one_object heap) 3)) (holder_at 3)
second_ready heap count = record {
  header = (2, omega arith, refl);
  serial = (1, omega arith, refl);
  fields = second_fields heap;
  null = λ i low names. all_null 3 i;
  whole = record { ty = omega arith; room = omega arith; size = omega arith; inside = omega (arith, count); fields = refl };
  apart = λ a from until. outside_first a from;
  number = omega arith;
  unused = another_number;
}

-- the first object once it names another
abbrev holder_with : ℕ → Body
holder_with w = record (holder_at 0) { fields = w ∷ [] }

first_place : (heap : Heap) → IsPlace (stored (two_objects heap) 2 4).bodies 0
first_place heap = (holder_with 4, (0, omega arith, refl), refl)

pub place_there : (heap : Heap) (laid seen : SeatView) → laid ≡ two_objects heap → seen ≡ begun (stored laid 2 4) (0 ∷ []) → IsPlace seen.bodies 0
place_there heap laid seen are is =
    subst (λ (v : SeatView). IsPlace v.bodies 0) (sym (is ∙ ap (λ v. begun (stored v 2 4) (0 ∷ [])) are)) (first_place heap)
