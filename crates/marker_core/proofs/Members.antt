-- What lists hold after a push and a write, and tests over lists.
use Rattle.std.proofs.Common.{◌≡◌, ℕ, ◌+◌, ◌<◌, List, [], ◌∷◌, ◌++◌, length, get_or, set, Bool, true, false, cond, ◌||◌, eqb, refl, sym, ap, ◌∙◌, inl, inr, arith, Contains}
use mathlib.Core.Logic.{◌⊎◌}
use Rattle.std.specs.List.{list_any, list_all, range_with_len}
use Rattle.std.proofs.lemmas.Bool.{both_ways, cases_eq, false_from_ne_true}
use Rattle.std.proofs.lemmas.List.{length-set, get_or-set_same, get_or-set_other, get_or_default}
use Rattle.std.proofs.lemmas.List.Elements.{All-contains, Contains-push_cases, Contains-append_cases}
use Rattle.std.proofs.lemmas.List.Folds.{list_any-append}
use Rattle.std.proofs.lemmas.List.FromFn.{length-range_with_len, get_or-range_with_len}
use Rattle.std.proofs.lemmas.List.Sums.{AllPass-from_list_all}
use Rattle.marker_core.specs.Bodies.{holds}
use Rattle.gc_graph.specs.Members.{any_member, any_from, holds_from, in_from_holds}

pub nothing_in : {X : Type 0} (x : X) → Contains [] x → ⊥
nothing_in x h = omega (arith, h.1)

-- ---- a test over a list

pub none_passes : {X : Type 0} (p : X → Bool) (xs : List X) (x : X) → list_any p xs ≡ false → Contains xs x → p x ≡ false
none_passes p xs x none h = false_from_ne_true (p x) (λ passes. both_ways (list_any p xs) none (any_from p xs x h passes))

pub none_from : {X : Type 0} (p : X → Bool) (xs : List X) → ((x : X) → Contains xs x → p x ≡ true → ⊥) → list_any p xs ≡ false
none_from p xs none = false_from_ne_true (list_any p xs) (λ some. let found = any_member p xs some in none found.0 found.1 found.2)

pub all_member : {X : Type 0} (p : X → Bool) (xs : List X) (x : X) → list_all p xs ≡ true → Contains xs x → p x ≡ true
all_member p xs x all h = All-contains (λ y. p y ≡ true) xs x (AllPass-from_list_all p xs all) h

pub range_below : (n i : ℕ) → Contains (range_with_len 0 n) i → i < n
range_below n i h =
    let below : h.0 < n = omega (arith, h.1, length-range_with_len 0 n) in
    let at : get_or (range_with_len 0 n) h.0 i ≡ 0 + h.0 = get_or-range_with_len 0 n h.0 i below in
    omega (arith, h.2)

-- ---- a write at one position

-- what is in the list after the write is what was written, or was in it
pub was_in_or_written : {X : Type 0} (xs : List X) (k : ℕ) (y x : X) → k < length xs → Contains (set xs k y) x → (x ≡ y) ⊎ Contains xs x
was_in_or_written xs k y x within h = elim (cases_eq h.0 k) [
  | inl same ↦ inl (sym h.2 ∙ ap (λ j. get_or (set xs k y) j x) same ∙ get_or-set_same xs k y x within)
  | inr other ↦
      inr (h.0, omega (arith, h.1, length-set xs k y), sym (get_or-set_other xs k h.0 y x other) ∙ h.2)
]

-- what was in it is what was overwritten, or still in it
pub still_in_or_overwritten : {X : Type 0} (xs : List X) (k : ℕ) (y x d : X) → k < length xs → Contains xs x
    → (x ≡ get_or xs k d) ⊎ Contains (set xs k y) x
still_in_or_overwritten xs k y x d within h = elim (cases_eq h.0 k) [
  | inl same ↦ inl (sym h.2 ∙ ap (λ j. get_or xs j x) same ∙ get_or_default xs k x d within)
  | inr other ↦ inr (h.0, omega (arith, h.1, length-set xs k y), get_or-set_other xs k h.0 y x other ∙ h.2)
]

pub written_is_in : {X : Type 0} (xs : List X) (k : ℕ) (y : X) → k < length xs → Contains (set xs k y) y
written_is_in xs k y within = (k, omega (arith, length-set xs k y), get_or-set_same xs k y y within)

-- ---- sets of places

pub holds_more : (places more : List ℕ) (x : ℕ) → holds places x ≡ true → holds (places ++ more) x ≡ true
holds_more places more x h = list_any-append (λ p. eqb p x) places more ∙ ap (λ t. t || holds more x) h

pub holds_push_cases : (places : List ℕ) (a x : ℕ) → holds (places ++ a ∷ []) x ≡ true → (x ≡ a) ⊎ (holds places x ≡ true)
holds_push_cases places a x h = elim (Contains-push_cases places a x (in_from_holds (places ++ a ∷ []) x h)) [
  | inl old ↦ inr (holds_from places x old)
  | inr same ↦ inl (sym same)
]

pub holds_append_cases : (places more : List ℕ) (x : ℕ) → holds (places ++ more) x ≡ true → (holds places x ≡ true) ⊎ (holds more x ≡ true)
holds_append_cases places more x h = elim (Contains-append_cases places more x (in_from_holds (places ++ more) x h)) [
  | inl old ↦ inl (holds_from places x old)
  | inr new ↦ inr (holds_from more x new)
]

-- what a set holds where a place joined it under a condition
pub held_after : (joins : Bool) (places : List ℕ) (a x : ℕ) → holds (cond joins (places ++ a ∷ []) places) x ≡ true
    → (holds places x ≡ true) ⊎ ((joins ≡ true) × (x ≡ a))
held_after true places a x h = elim (holds_push_cases places a x h) [ inl same ↦ inr (refl, same) | inr old ↦ inl old ]
held_after false places a x h = inl h
