-- What stands in lists that were put one after another.
use Rattle.std.proofs.Common.{◌≡◌, ℕ, Bool, zero, suc, ◌+◌, ◌<◌, ◌≤◌, List, [], ◌∷◌, length, get_or, cond, eqb, sym, ap, subst, inl, inr, arith}
use Rattle.std.specs.List.{Contains, flat_map}
use Rattle.std.proofs.lemmas.Bool.{cases_Bool, eqb-true, eq-eqb}
use Rattle.std.proofs.lemmas.List.Concat.{flat_map-cons}
use Rattle.std.proofs.lemmas.List.Elements.{Contains-append_cases, Contains-append_left, Contains-append_right}
use Rattle.std.proofs.lemmas.List.Sums.{sum_by-cons}
use Rattle.gc_graph.specs.Members.{Contains-cons, Contains-cons_cases, Contains-head}
use Rattle.mark_worklist.specs.Shares.{times_listed}

module _ {X A : Type 0} (f : X → List A) where
  -- it stands in one of them
  pub in_one : (xs : List X) (d : X) (y : A) → Contains (flat_map f xs) y → (k : ℕ) × (k < length xs) × Contains (f (get_or xs k d)) y
  in_one [] d y there = absurd (omega (arith, there.1))
  in_one (x ∷ xs) d y there = elim (Contains-append_cases (f x) (flat_map f xs) y (subst (λ l. Contains l y) (flat_map-cons f x xs) there)) [
    | inl here ↦ (0, omega arith, here)
    | inr later ↦ (let found = in_one xs d y later in (suc found.0, omega (arith, found.1), found.2))
  ]

  -- what stands in one of them
  pub in_all : (xs : List X) (d : X) (y : A) (k : ℕ) → k < length xs → Contains (f (get_or xs k d)) y → Contains (flat_map f xs) y
  in_all [] d y k low there = absurd (omega (arith, low))
  in_all (x ∷ xs) d y zero low there = subst (λ l. Contains l y) (sym (flat_map-cons f x xs)) (Contains-append_left (f x) (flat_map f xs) y there)
  in_all (x ∷ xs) d y (suc k) low there =
      subst (λ l. Contains l y) (sym (flat_map-cons f x xs)) (Contains-append_right (f x) (flat_map f xs) y (in_all xs d y k (omega (arith, low)) there))

-- ---- how often an item stands in a list

abbrev one_if : Bool → ℕ
one_if is = cond is 1 0

times_cons : (a x : ℕ) (items : List ℕ) → times_listed a (x ∷ items) ≡ cond (eqb x a) 1 0 + times_listed a items
times_cons a x items = sum_by-cons (λ i. cond (eqb i a) 1 0) x items

pub times_some : (a : ℕ) (items : List ℕ) → Contains items a → 1 ≤ times_listed a items
times_some a [] there = absurd (omega (arith, there.1))
times_some a (x ∷ items) there = elim (Contains-cons_cases x items a there) [
  | inl here ↦ omega (arith, times_cons a x items, ap one_if (eq-eqb x a here))
  | inr later ↦ omega (arith, times_cons a x items, times_some a items later)
]

pub some_times : (a : ℕ) (items : List ℕ) → 1 ≤ times_listed a items → Contains items a
some_times a [] some = absurd (omega (arith, some))
some_times a (x ∷ items) some = elim (cases_Bool (eqb x a)) [
  | inl same ↦ subst (λ y. Contains (x ∷ items) y) (eqb-true x a same) (Contains-head x items)
  | inr other ↦ Contains-cons x items a (some_times a items (omega (arith, some, times_cons a x items, ap one_if other)))
]
