-- Lists of places without those between two addresses.
use Rattle.std.proofs.Common.{◌≡◌, ℕ, ◌+◌, ◌<◌, ◌≤◌, true, false, not, ◌&&◌, List, [], ◌∷◌, refl, sym, ap, ◌∙◌, inl, inr, arith, eqb}
use Rattle.std.proofs.lemmas.Bool.{true≢false, cond-true, cond-false, cases_Bool, cases_eq, cases_lt, and_left, and_right, and_from, and_parts, le-leb, lt-leb, lt-ltb, le-ltb, leb-true, ltb-true, eq-eqb, ne_eqb, or_left, or_right, or_parts, not_from_true, not_from_false}
use Rattle.std.proofs.lemmas.List.Elements.{filter_agree}
use Rattle.marker_core.specs.Bodies.{holds, without}
use Rattle.page_space.specs.Pages.{is_between}
use Rattle.sweeper.specs.Sweeping.{outside}
use Rattle.sweeper.proofs.Filters.{filter_filter}
use Rattle.sweeper.specs.OutsidePlaces.{outside_holds}

pub between : (from until a : ℕ) → from ≤ a → a < until → is_between from until a ≡ true
between from until a first last = and_from _ _ (le-leb from a first) (lt-ltb a until last)

pub before : (from until a : ℕ) → a < from → is_between from until a ≡ false
before from until a low = and_left _ _ (lt-leb from a low)

pub behind : (from until a : ℕ) → until ≤ a → is_between from until a ≡ false
behind from until a high = and_right _ _ (le-ltb a until high)

pub is_first : (from until a : ℕ) → is_between from until a ≡ true → from ≤ a
is_first from until a is = leb-true from a (and_parts _ _ is).0

pub is_last : (from until a : ℕ) → is_between from until a ≡ true → a < until
is_last from until a is = ltb-true a until (and_parts _ _ is).1

pub later : (from mid until a : ℕ) → from ≤ mid → is_between mid until a ≡ true → is_between from until a ≡ true
later from mid until a early is = between from until a (omega (arith, is_first mid until a is)) (is_last mid until a is)

-- what lies outside of both of two neighbours lies outside of the two together
pub outside_both : (from mid until a : ℕ) → from ≤ mid → mid ≤ until
    → (not (is_between from mid a) && not (is_between mid until a)) ≡ not (is_between from until a)
outside_both from mid until a early late = elim (cases_lt a from) [
  | inl low ↦
      ap (λ t. not t && not (is_between mid until a)) (before from mid a low)
      ∙ ap not (before mid until a (omega arith)) ∙ ap not (sym (before from until a low))
  | inr high ↦ elim (cases_lt a mid) [
    | inl first ↦
        ap (λ t. not t && not (is_between mid until a)) (between from mid a high first)
        ∙ ap not (sym (between from until a high (omega arith)))
    | inr second ↦
        ap (λ t. not t && not (is_between mid until a)) (behind from mid a second)
        ∙ elim (cases_lt a until) [
          | inl inside ↦ ap not (between mid until a second inside) ∙ ap not (sym (between from until a high inside))
          | inr over ↦ ap not (behind mid until a over) ∙ ap not (sym (behind from until a over))
        ]
  ]
]

pub outside_on : (from mid until : ℕ) (places : List ℕ) → from ≤ mid → mid ≤ until
    → outside mid until (outside from mid places) ≡ outside from until places
outside_on from mid until places early late =
    filter_filter (λ a. not (is_between mid until a)) (λ a. not (is_between from mid a)) places
    ∙ filter_agree _ (λ a. not (is_between from until a)) (λ a. outside_both from mid until a early late) places

pub outside_behind : (from until : ℕ) (places : List ℕ) (a : ℕ) → until ≤ a → holds (outside from until places) a ≡ holds places a
outside_behind from until places a high = outside_holds from until places a ∙ ap (λ t. not t && holds places a) (behind from until a high)

pub outside_before : (from until : ℕ) (places : List ℕ) (a : ℕ) → a < from → holds (outside from until places) a ≡ holds places a
outside_before from until places a low = outside_holds from until places a ∙ ap (λ t. not t && holds places a) (before from until a low)

pub outside_between : (from until : ℕ) (places : List ℕ) (a : ℕ) → from ≤ a → a < until → holds (outside from until places) a ≡ false
outside_between from until places a first last =
    outside_holds from until places a ∙ ap (λ t. not t && holds places a) (between from until a first last)

-- where none of the places lies there, all are left
pub outside_all : (from until : ℕ) (places : List ℕ) → ((a : ℕ) → from ≤ a → a < until → holds places a ≡ false) → outside from until places ≡ places
outside_all from until [] none = refl
outside_all from until (p ∷ places) none = elim (cases_Bool (is_between from until p)) [
  | inl is ↦
      absurd (true≢false (sym (or_left (eqb p p) (holds places p) (eq-eqb p p refl)) ∙ none p (is_first from until p is) (is_last from until p is)))
  | inr not_there ↦
      cond-true (not (is_between from until p)) (p ∷ outside from until places) (outside from until places) (not_from_false _ not_there)
      ∙ ap (λ l. p ∷ l) (outside_all from until places (λ a first last. (or_parts (eqb p a) (holds places a) (none a first last)).1))
]

-- where all of the places lie there, none is left
pub outside_none : (from until : ℕ) (places : List ℕ) → ((a : ℕ) → holds places a ≡ true → is_between from until a ≡ true) → outside from until places ≡ []
outside_none from until [] all = refl
outside_none from until (p ∷ places) all =
    cond-false (not (is_between from until p)) (p ∷ outside from until places) (outside from until places)
    (not_from_true _ (all p (or_left (eqb p p) (holds places p) (eq-eqb p p refl))))
    ∙ outside_none from until places (λ a held. all a (or_right (eqb p a) (holds places a) held))

-- one address alone lies from it up to the next
pub only : (a x : ℕ) → is_between a (a + 1) x ≡ eqb x a
only a x = elim (cases_eq x a) [
  | inl here ↦ between a (a + 1) x (omega arith) (omega arith) ∙ sym (eq-eqb x a here)
  | inr other ↦ elim (cases_lt x a) [
    | inl low ↦ before a (a + 1) x low ∙ sym (ne_eqb x a other)
    | inr high ↦ behind a (a + 1) x (omega (arith, other)) ∙ sym (ne_eqb x a other)
  ]
]

pub outside_one : (places : List ℕ) (a : ℕ) → without places a ≡ outside a (a + 1) places
outside_one places a = filter_agree (λ p. not (eqb p a)) (λ p. not (is_between a (a + 1) p)) (λ p. ap not (sym (only a p))) places
