-- How many dead bodies are left.
use Rattle.std.proofs.Common.{◌≡◌, ℕ, ◌+◌, ◌*◌, ◌≤◌, Bool, true, false, cond, List, [], ◌∷◌, map, refl, ap, ◌∙◌, subst, inl, inr, arith}
use Rattle.std.specs.List.{filter, Contains, count_by, sum_by}
use Rattle.std.proofs.lemmas.Bool.{cond-true, cond-false, cases_Bool}
use Rattle.std.proofs.lemmas.List.Sums.{sum_by-cons}
use Rattle.sweeper.proofs.Filters.{filter_all}
use Rattle.gc_graph.specs.Members.{Contains-head, Contains-cons, Contains-cons_cases}

abbrev one : Bool → ℕ
one t = cond t 1 0

one_is : (t : Bool) → t ≡ true → one t ≡ 1
one_is t is = cond-true t 1 0 is

one_isnt : (t : Bool) → t ≡ false → one t ≡ 0
one_isnt t isnt = cond-false t 1 0 isnt

module _ {X : Type 0} where
  count_cons : (p : X → Bool) (x : X) (xs : List X) → count_by p (x ∷ xs) ≡ one (p x) + count_by p xs
  count_cons p x xs = sum_by-cons (λ y. cond (p y) 1 0) x xs

  -- one element more at the front
  count_step : (p q : X → Bool) (keep : X → Bool) (x : X) (xs : List X) (n : ℕ) → (keep x ≡ true → q x ≡ true → p x ≡ true)
      → n + count_by q (filter keep xs) ≤ count_by p xs → n + count_by q (filter keep (x ∷ xs)) ≤ count_by p (x ∷ xs)
  count_step p q keep x xs n less rest = elim (cases_Bool (keep x)) [
    | inl kept ↦
        (let head : one (q x) ≤ one (p x) = elim (cases_Bool (q x)) [
          | inl passes ↦ omega (arith, one_is (q x) passes, one_is (p x) (less kept passes))
          | inr fails ↦ omega (arith, one_isnt (q x) fails)
        ] in
        omega (arith, rest, head, count_cons p x xs, count_cons q x (filter keep xs), ap (count_by q) (cond-true (keep x) (x ∷ filter keep xs) (filter keep xs) kept)))
    | inr dropped ↦
        omega (arith, rest, count_cons p x xs, ap (count_by q) (cond-false (keep x) (x ∷ filter keep xs) (filter keep xs) dropped))
  ]

  -- what is left by a filter and passes one test passed the other
  pub count_left : (p q : X → Bool) (keep : X → Bool) (xs : List X) → ((x : X) → keep x ≡ true → q x ≡ true → p x ≡ true)
      → count_by q (filter keep xs) ≤ count_by p xs
  count_left p q keep [] less = omega arith
  count_left p q keep (x ∷ xs) less = omega (arith, count_step p q keep x xs 0 (less x) (omega (arith, count_left p q keep xs less)))

  -- and one fewer is left where one that passed is dropped
  pub count_less : (p q : X → Bool) (keep : X → Bool) (xs : List X) (b : X) → ((x : X) → keep x ≡ true → q x ≡ true → p x ≡ true)
      → Contains xs b → p b ≡ true → keep b ≡ false → 1 + count_by q (filter keep xs) ≤ count_by p xs
  count_less p q keep [] b less there passed dropped = absurd (omega (arith, there.1))
  count_less p q keep (x ∷ xs) b less there passed dropped = elim (Contains-cons_cases x xs b there) [
    | inl here ↦
        omega (
          arith,
          count_left p q keep xs less,
          count_cons p x xs,
          one_is (p x) (ap p here ∙ passed),
          ap (count_by q) (cond-false (keep x) (x ∷ filter keep xs) (filter keep xs) (ap keep here ∙ dropped)),
        )
    | inr later ↦ count_step p q keep x xs 1 (less x) (count_less p q keep xs b less later passed dropped)
  ]

  pub count_some : (p : X → Bool) (xs : List X) (b : X) → Contains xs b → p b ≡ true → 1 ≤ count_by p xs
  count_some p [] b there passed = absurd (omega (arith, there.1))
  count_some p (x ∷ xs) b there passed = elim (Contains-cons_cases x xs b there) [
    | inl here ↦ omega (arith, count_cons p x xs, one_is (p x) (ap p here ∙ passed))
    | inr later ↦ omega (arith, count_cons p x xs, count_some p xs b later passed)
  ]

  pub count_fewer : (p q : X → Bool) (xs : List X) → ((x : X) → q x ≡ true → p x ≡ true) → count_by q xs ≤ count_by p xs
  count_fewer p q xs less =
      let same : filter (λ _. true) xs ≡ xs = filter_all (λ _. true) xs (λ _ _. refl) in
      subst (λ l. count_by q l ≤ count_by p xs) same (count_left p q (λ _. true) xs (λ x _. less x))

module _ {X Y : Type 0} where
  -- where each is worth two at least, twice the number of some is no more than all are worth
  pub count_half : (p : X → Bool) (f : X → Y) (worth : Y → ℕ) (xs : List X) → ((y : Y) → Contains (map f xs) y → 2 ≤ worth y)
      → 2 * count_by p xs ≤ sum_by worth (map f xs)
  count_half p f worth [] least = omega arith
  count_half p f worth (x ∷ xs) least =
      let rest : 2 * count_by p xs ≤ sum_by worth (map f xs) = count_half p f worth xs (λ y there. least y (Contains-cons (f x) (map f xs) y there)) in
      let head : one (p x) ≤ 1 = elim (cases_Bool (p x)) [ inl is ↦ omega (arith, one_is (p x) is) | inr isnt ↦ omega (arith, one_isnt (p x) isnt) ] in
      omega (arith, rest, head, least (f x) (Contains-head (f x) (map f xs)), count_cons p x xs, sum_by-cons worth (f x) (map f xs))
