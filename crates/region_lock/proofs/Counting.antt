-- Counts, and what holds of each element.
use Rattle.std.proofs.Common.{◌≡◌, ◌≢◌, ◌⊎◌, ℕ, zero, suc, ◌+◌, ◌<◌, ◌≤◌, ◌==◌, Bool, true, false, not, List, [], ◌∷◌, ◌++◌, length, All, Contains, filter, cond, set, refl, sym, ap, ◌∙◌, subst, inl, inr, ⊎_elim, arith}
use mathlib.Core.Option.{some, some-injective, some-ne-none}
use lib.ListN.{get_elem?}
use Rattle.std.proofs.lemmas.Bool.{cases_Bool, cases_eq, true≢false, eq-eqb, ne_eqb, eqb-true}
use Rattle.std.proofs.lemmas.List.Elements.{All-head, All-tail, All-cons, All-nil}
use Rattle.atomic_table.proofs.Lists.{at_set, at_snoc}
use Rattle.region_lock.specs.Counts.{num, count, times, Each}
use Rattle.region_lock.specs.Plays.{without}

num-le : (a b : Bool) → (a ≡ true → b ≡ true) → num a ≤ num b
num-le false b h = omega arith
num-le true b h = let e : num b ≡ 1 = ap num (h refl) in omega arith

module _ {X : Type 0} where
  pub count_set : (p : X → Bool) (xs : List X) (i : ℕ) (v w : X) → get_elem? xs i ≡ some v → count p (set xs i w) + num (p v) ≡ count p xs + num (p w)
  count_set p [] i v w at = absurd (some-ne-none v (sym at))
  count_set p (x ∷ xs) zero v w at = let e : x ≡ v = some-injective x v at in let f : num (p x) ≡ num (p v) = ap (λ y. num (p y)) e in omega arith
  count_set p (x ∷ xs) (suc i) v w at = let h = count_set p xs i v w at in omega arith

  -- a change that the test doesn't see
  pub count_same : (p : X → Bool) (xs : List X) (i : ℕ) (v w : X) → get_elem? xs i ≡ some v → p w ≡ p v → count p (set xs i w) ≡ count p xs
  count_same p xs i v w at same = let h = count_set p xs i v w at in let f : num (p w) ≡ num (p v) = ap num same in omega arith

  pub count_push : (p : X → Bool) (xs : List X) (w : X) → count p (xs ++ w ∷ []) ≡ count p xs + num (p w)
  count_push p [] w = omega arith
  count_push p (x ∷ xs) w = let h = count_push p xs w in omega arith

  pub one_passes : (p : X → Bool) (xs : List X) (i : ℕ) (v : X) → get_elem? xs i ≡ some v → p v ≡ true → 0 < count p xs
  one_passes p [] i v at is = absurd (some-ne-none v (sym at))
  one_passes p (x ∷ xs) zero v at is = let f : num (p x) ≡ 1 = ap (λ y. num (p y)) (some-injective x v at) ∙ ap num is in omega arith
  one_passes p (x ∷ xs) (suc i) v at is = let h = one_passes p xs i v at is in omega arith

  -- where at most one passes, two that pass are one
  pub only_one : (p : X → Bool) (xs : List X) (i j : ℕ) (v w : X) → count p xs ≤ 1 → get_elem? xs i ≡ some v → p v ≡ true → get_elem? xs j ≡ some w
      → p w ≡ true → i ≡ j
  only_one p [] i j v w few at is there too = absurd (some-ne-none v (sym at))
  only_one p (x ∷ xs) zero zero v w few at is there too = refl
  only_one p (x ∷ xs) zero (suc j) v w few at is there too =
      let f : num (p x) ≡ 1 = ap (λ y. num (p y)) (some-injective x v at) ∙ ap num is in let g = one_passes p xs j w there too in absurd (omega arith)
  only_one p (x ∷ xs) (suc i) zero v w few at is there too =
      let f : num (p x) ≡ 1 = ap (λ y. num (p y)) (some-injective x w there) ∙ ap num too in let g = one_passes p xs i v at is in absurd (omega arith)
  only_one p (x ∷ xs) (suc i) (suc j) v w few at is there too = ap suc (only_one p xs i j v w (omega arith) at is there too)

  -- where each that passes p passes q
  pub count-le : (p q : X → Bool) (xs : List X) → Each (λ x. p x ≡ true → q x ≡ true) xs → count p xs ≤ count q xs
  count-le p q [] h = omega arith
  count-le p q (x ∷ xs) h = let f = num-le (p x) (q x) (h zero x refl) in let g = count-le p q xs (λ i. h (suc i)) in omega arith

  pub none_pass : (p : X → Bool) (xs : List X) → Each (λ x. p x ≡ false) xs → count p xs ≡ 0
  none_pass p [] h = refl
  none_pass p (x ∷ xs) h = let f : num (p x) ≡ 0 = ap num (h zero x refl) in let g = none_pass p xs (λ i. h (suc i)) in omega arith

  pub each_set : (P Q : X → Type 0) (xs : List X) (i : ℕ) (w : X) → Each P xs → ((j : ℕ) (x : X) → j ≢ i → get_elem? xs j ≡ some x → P x → Q x) → Q w
      → Each Q (set xs i w)
  each_set P Q xs i w each others own j x at = ⊎_elim (λ h. subst Q h.1 own) (λ h. others j x h.0 h.1 (each j x h.1)) (at_set xs i j w x at)

  pub each_push : (P : X → Type 0) (xs : List X) (w : X) → Each P xs → P w → Each P (xs ++ w ∷ [])
  each_push P xs w each own j x at = ⊎_elim (λ h. each j x h) (λ h. subst P h own) (at_snoc xs w x j at)

  pub All_before : (P : X → Type 0) (xs ys : List X) → All P (xs ++ ys) → All P xs
  All_before P [] ys h = All-nil P
  All_before P (x ∷ xs) ys h = All-cons P x xs (All-head P x (xs ++ ys) h) (All_before P xs ys (All-tail P x (xs ++ ys) h))

  pub All_after : (P : X → Type 0) (xs ys : List X) → All P (xs ++ ys) → All P ys
  All_after P [] ys h = h
  All_after P (x ∷ xs) ys h = All_after P xs ys (All-tail P x (xs ++ ys) h)

  -- two beginnings of one list: one begins the other
  pub line_up : (a ra b rb : List X) → a ++ ra ≡ b ++ rb
      → ((mid : List X) × (b ≡ a ++ mid) × (ra ≡ mid ++ rb)) ⊎ ((mid : List X) × (a ≡ b ++ mid) × (rb ≡ mid ++ ra))
  line_up [] ra b rb e = inl (b, refl, e)
  line_up (x ∷ a) ra [] rb e = inr (x ∷ a, refl, sym e)
  line_up (x ∷ a) ra (y ∷ b) rb e =
      let h : x ≡ y = cc in let t : a ++ ra ≡ b ++ rb = cc in
      ⊎_elim (λ w. inl (w.0, (λ k. sym h k ∷ w.1 k), w.2)) (λ w. inr (w.0, (λ k. h k ∷ w.1 k), w.2)) (line_up a ra b rb t)

-- ---- numbers

pub Contains-cons : (y : ℕ) (ys : List ℕ) (x : ℕ) → Contains ys x → Contains (y ∷ ys) x
Contains-cons y ys x c = (suc c.0, omega (arith, c.1), c.2)

Contains-head : (x : ℕ) (xs : List ℕ) → Contains (x ∷ xs) x
Contains-head x xs = (0, omega arith, refl)

Contains-cons_cases : (y : ℕ) (ys : List ℕ) (x : ℕ) → Contains (y ∷ ys) x → (y ≡ x) ⊎ Contains ys x
Contains-cons_cases y ys x (zero, l, e) = inl e
Contains-cons_cases y ys x (suc k, l, e) = inr (k, omega arith, e)

pub times_no : (n m : ℕ) (ns : List ℕ) → m ≢ n → times n (m ∷ ns) ≡ times n ns
times_no n m ns ne = let f : num (m == n) ≡ 0 = ap num (ne_eqb m n ne) in omega arith

filter_yes : (p : ℕ → Bool) (m : ℕ) (ns : List ℕ) → p m ≡ true → filter p (m ∷ ns) ≡ m ∷ filter p ns
filter_yes p m ns e = ap (λ b. cond b (m ∷ filter p ns) (filter p ns)) e

filter_no : (p : ℕ → Bool) (m : ℕ) (ns : List ℕ) → p m ≡ false → filter p (m ∷ ns) ≡ filter p ns
filter_no p m ns e = ap (λ b. cond b (m ∷ filter p ns) (filter p ns)) e

-- what is left without n
pub without-length : (n : ℕ) (ns : List ℕ) → length (without n ns) + times n ns ≡ length ns
without-length n [] = refl
without-length n (m ∷ ns) = let h = without-length n ns in ⊎_elim
    (λ e. let f : length (without n (m ∷ ns)) ≡ length (without n ns) = ap length (filter_no (λ m. not (m == n)) m ns (ap not e)) in
    let g : num (m == n) ≡ 1 = ap num e in omega arith)
    (λ e. let f : length (without n (m ∷ ns)) ≡ suc (length (without n ns)) = ap length (filter_yes (λ m. not (m == n)) m ns (ap not e)) in
    let g : num (m == n) ≡ 0 = ap num e in omega arith)
    (cases_Bool (m == n))

pub without-times : (n k : ℕ) (ns : List ℕ) → k ≢ n → times k (without n ns) ≡ times k ns
without-times n k [] ne = refl
without-times n k (m ∷ ns) ne = let h = without-times n k ns ne in ⊎_elim
    (λ e. let f : times k (without n (m ∷ ns)) ≡ times k (without n ns) = ap (times k) (filter_no (λ m. not (m == n)) m ns (ap not e)) in
    let g : times k (m ∷ ns) ≡ times k ns = times_no k m ns (λ same. ne (sym same ∙ eqb-true m n e)) in omega arith)
    (λ e. let f : times k (without n (m ∷ ns)) ≡ times k (m ∷ without n ns) = ap (times k) (filter_yes (λ m. not (m == n)) m ns (ap not e)) in
    omega arith)
    (cases_Bool (m == n))

pub without-none : (n : ℕ) (ns : List ℕ) → times n (without n ns) ≡ 0
without-none n [] = refl
without-none n (m ∷ ns) = let h = without-none n ns in ⊎_elim
    (λ e. ap (times n) (filter_no (λ m. not (m == n)) m ns (ap not e)) ∙ h)
    (λ e. let f : times n (without n (m ∷ ns)) ≡ times n (m ∷ without n ns) = ap (times n) (filter_yes (λ m. not (m == n)) m ns (ap not e)) in
    let g : num (m == n) ≡ 0 = ap num e in omega arith)
    (cases_Bool (m == n))

pub times_some : (n : ℕ) (ns : List ℕ) → 0 < times n ns → Contains ns n
times_some n [] h = absurd (omega arith)
times_some n (m ∷ ns) h = ⊎_elim
    (λ e. subst (λ k. Contains (k ∷ ns) n) (sym (eqb-true m n e)) (Contains-head n ns))
    (λ e. let g : num (m == n) ≡ 0 = ap num e in Contains-cons m ns n (times_some n ns (omega arith)))
    (cases_Bool (m == n))

pub times_zero : (n : ℕ) (ns : List ℕ) → (Contains ns n → ⊥) → times n ns ≡ 0
times_zero n ns none = ⊎_elim (λ e. e) (λ ne. absurd (none (times_some n ns (omega (arith, ne))))) (cases_eq (times n ns) 0)

pub times_in : (n : ℕ) (ns : List ℕ) → Contains ns n → 0 < times n ns
times_in n [] c = absurd (omega (arith, c.1))
times_in n (m ∷ ns) c = ⊎_elim
    (λ e. let f : num (m == n) ≡ 1 = ap num (eq-eqb m n e) in omega arith)
    (λ later. let h = times_in n ns later in omega arith)
    (Contains-cons_cases m ns n c)

-- numbers that differ and are below n are at most n
pub pigeons : (n : ℕ) (ns : List ℕ) → All (λ m. m < n) ns → ((k : ℕ) → times k ns ≤ 1) → length ns ≤ n
pigeons zero [] low once = omega arith
pigeons zero (m ∷ ns) low once = absurd (omega (arith, All-head (λ m. m < 0) m ns low))
pigeons (suc n) ns low once =
    let h = pigeons n (without n ns) (below_without n ns low) (λ k. ⊎_elim
    (λ e. subst (λ j. times j (without n ns) ≤ 1) (sym e) (omega (arith, without-none n ns)))
    (λ ne. omega (arith, without-times n k ns ne, once k)) (cases_eq k n)) in
    omega (arith, without-length n ns, once n)
  where
    below_without : (n : ℕ) (ns : List ℕ) → All (λ m. m < suc n) ns → All (λ m. m < n) (without n ns)
    below_without n [] low = All-nil (λ m. m < n)
    below_without n (m ∷ ns) low = ⊎_elim
        (λ e. subst (All (λ m. m < n)) (sym (filter_no (λ m. not (m == n)) m ns (ap not e))) (below_without n ns (All-tail (λ m. m < suc n) m ns low)))
        (λ e. subst (All (λ m. m < n)) (sym (filter_yes (λ m. not (m == n)) m ns (ap not e)))
        (All-cons (λ m. m < n) m (without n ns)
        (omega (arith, All-head (λ m. m < suc n) m ns low, λ (same : m ≡ n). true≢false (sym (eq-eqb m n same) ∙ e)))
        (below_without n ns (All-tail (λ m. m < suc n) m ns low))))
        (cases_Bool (m == n))

pub All_without : (P : ℕ → Type 0) (n : ℕ) (ns : List ℕ) → All P ns → All P (without n ns)
All_without P n [] h = h
All_without P n (m ∷ ns) h = ⊎_elim
    (λ e. subst (All P) (sym (filter_no (λ m. not (m == n)) m ns (ap not e))) (All_without P n ns (All-tail P m ns h)))
    (λ e. subst (All P) (sym (filter_yes (λ m. not (m == n)) m ns (ap not e))) (All-cons P m (without n ns) (All-head P m ns h) (All_without P n ns (All-tail P m ns h))))
    (cases_Bool (m == n))

-- one that stays
pub in_without : (n k : ℕ) (ns : List ℕ) → k ≢ n → Contains ns k → Contains (without n ns) k
in_without n k ns ne c = times_some k (without n ns) (omega (arith, without-times n k ns ne, times_in k ns c))

pub some_passes : {X : Type 0} (p : X → Bool) (xs : List X) → 0 < count p xs → (i : ℕ) × (v : X) × (get_elem? xs i ≡ some v) × (p v ≡ true)
some_passes p [] h = absurd (omega arith)
some_passes p (x ∷ xs) h = ⊎_elim
    (λ e. (zero, x, refl, e))
    (λ e. let g : num (p x) ≡ 0 = ap num e in let w = some_passes p xs (omega arith) in (suc w.0, w.1, w.2, w.3))
    (cases_Bool (p x))
