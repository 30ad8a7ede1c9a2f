-- What lists hold: after an item in front, a filter and a map, in a range, in a beginning, and by a test.
use Rattle.std.proofs.Common.{◌≡◌, ℕ, zero, suc, ◌+◌, ◌<◌, ◌≤◌, Bool, true, false, ◌&&◌, not, List, [], ◌∷◌, ◌++◌, length, get_or, map, take, refl, sym, ap, ◌∙◌, subst, inl, inr, arith, cond, eqb}
use mathlib.Core.Logic.{◌⊎◌}
use Rattle.std.specs.List.{Contains, filter, list_any, range_with_len}
use Rattle.std.proofs.lemmas.Bool.{true≢false, cases_eq, or_cases, eqb-true, eq-eqb, ne_eqb, not-true, not_from_false}
use Rattle.std.proofs.lemmas.List.{length-map, get_or-map, take_more}
use Rattle.std.proofs.lemmas.List.Elements.{All-contains, All-filter, All-weaker, All-contains_itself, filter_passes, Contains-append_left, Contains-push, Contains-push_cases}
use Rattle.std.proofs.lemmas.List.Folds.{list_any_at, list_any_none}
use Rattle.std.proofs.lemmas.Map.Views.{any-filter_same}

-- ---- an item in front

-- what a list has, it has with one more item in front
pub Contains-cons : {X : Type 0} (y : X) (ys : List X) (x : X) → Contains ys x → Contains (y ∷ ys) x
Contains-cons y ys x c = (suc c.0, omega (arith, c.1), c.2)

-- a list has the item at its front
pub Contains-head : {X : Type 0} (x : X) (xs : List X) → Contains (x ∷ xs) x
Contains-head x xs = (0, omega arith, refl)

-- an item of a list is the one at its front, or one of the rest
pub Contains-cons_cases : {X : Type 0} (y : X) (ys : List X) (x : X) → Contains (y ∷ ys) x → (y ≡ x) ⊎ Contains ys x
Contains-cons_cases y ys x (zero, l, e) = inl e
Contains-cons_cases y ys x (suc k, l, e) = inr (k, omega arith, e)

-- ---- a map

-- a mapped list has what the map makes of each item of the list
pub Contains-map : {X Y : Type 0} (f : X → Y) (xs : List X) (x : X) → Contains xs x → Contains (map f xs) (f x)
Contains-map f xs x c = (c.0, omega (arith, c.1, length-map xs f), get_or-map f xs c.0 x (f x) c.1 ∙ ap f c.2)

-- each item of a mapped list is what the map makes of some item of the list
pub Contains-map_some : {X Y : Type 0} (f : X → Y) (xs : List X) (y : Y) → Contains (map f xs) y → (x : X) × Contains xs x × (f x ≡ y)
Contains-map_some f [] y c = absurd (omega (arith, c.1))
Contains-map_some f (x ∷ xs) y c = elim (Contains-cons_cases (f x) (map f xs) y c) [
  | inl here ↦ (x, Contains-head x xs, here)
  | inr later ↦ (let w = Contains-map_some f xs y later in (w.0, Contains-cons x xs w.0 w.1, w.2))
]

-- ---- a filter

-- what a filter left was in the list
pub was_in : {X : Type 0} (p : X → Bool) (xs : List X) (x : X) → Contains (filter p xs) x → Contains xs x
was_in p xs x h = All-contains (Contains xs) (filter p xs) x (All-filter p (Contains xs) xs (All-contains_itself xs)) h

-- what a filter left passes its test
pub has_passed : {X : Type 0} (p : X → Bool) (xs : List X) (x : X) → Contains (filter p xs) x → p x ≡ true
has_passed p xs x h = All-contains (λ y. p y ≡ true) (filter p xs) x (filter_passes p xs) h

kept_head : {X : Type 0} (b : Bool) (y : X) (ys : List X) (x : X) → b ≡ true → y ≡ x → Contains (cond b (y ∷ ys) ys) x
kept_head true y ys x on same = (0, omega arith, same)
kept_head false y ys x on same = absurd (true≢false (sym on))

kept_tail : {X : Type 0} (b : Bool) (y : X) (ys : List X) (x : X) → Contains ys x → Contains (cond b (y ∷ ys) ys) x
kept_tail true y ys x h = Contains-cons y ys x h
kept_tail false y ys x h = h

-- an item of the list that passes the filter's test is left
pub stays_in : {X : Type 0} (p : X → Bool) (xs : List X) (x : X) → Contains xs x → p x ≡ true → Contains (filter p xs) x
stays_in p [] x h passes = absurd (omega (arith, h.1))
stays_in p (y ∷ ys) x h passes = elim (Contains-cons_cases y ys x h) [
  | inl same ↦ kept_head (p y) y (filter p ys) x (ap p same ∙ passes) same
  | inr rest ↦ kept_tail (p y) y (filter p ys) x (stays_in p ys x rest passes)
]

-- ---- a range of numbers

-- a number of a range is at least its first one and below its end
pub in_range : (first n x : ℕ) → Contains (range_with_len first n) x → (first ≤ x) × (x < first + n)
in_range first zero x there = absurd (omega (arith, there.1))
in_range first (suc n) x there = elim (Contains-cons_cases first (range_with_len (first + 1) n) x there) [
  | inl here ↦ (omega (arith, here), omega (arith, here))
  | inr later ↦ (let w = in_range (first + 1) n x later in (omega (arith, w.0), omega (arith, w.1)))
]

-- a number that is at least a range's first one and below its end is in the range
pub to_range : (first n x : ℕ) → first ≤ x → x < first + n → Contains (range_with_len first n) x
to_range first zero x low high = absurd (omega arith)
to_range first (suc n) x low high = elim (cases_eq first x) [
  | inl here ↦ (0, omega arith, here)
  | inr other ↦ Contains-cons first (range_with_len (first + 1) n) x (to_range (first + 1) n x (omega arith) (omega arith))
]

-- a number below the count is in the range of so many numbers from 0
pub below_ranged : (count n : ℕ) → n < count → Contains (range_with_len 0 count) n
below_ranged count n low = to_range 0 count n (omega arith) (omega arith)

-- ---- a beginning, and one with the next item

module _ {X : Type 0} where
  pub Contains-take_more_cases : (xs : List X) (i : ℕ) (d x : X) → i < length xs → Contains (take (i + 1) xs) x → Contains (take i xs) x ⊎ (get_or xs i d ≡ x)
  Contains-take_more_cases xs i d x low c = Contains-push_cases (take i xs) (get_or xs i d) x (subst (λ l. Contains l x) (take_more xs i d low) c)

  pub Contains-take_more_old : (xs : List X) (i : ℕ) (d x : X) → i < length xs → Contains (take i xs) x → Contains (take (i + 1) xs) x
  Contains-take_more_old xs i d x low c = subst (λ l. Contains l x) (sym (take_more xs i d low)) (Contains-append_left (take i xs) (get_or xs i d ∷ []) x c)

  pub Contains-take_more_new : (xs : List X) (i : ℕ) (d x : X) → i < length xs → get_or xs i d ≡ x → Contains (take (i + 1) xs) x
  Contains-take_more_new xs i d x low e =
      subst (λ l. Contains l x) (sym (take_more xs i d low)) (subst (λ y. Contains (take i xs ++ get_or xs i d ∷ []) y) e (Contains-push (take i xs) (get_or xs i d)))

-- ---- a test of which one item passes

-- where the test tells that some item of a list passes, the list has an item that passes
pub any_member : {X : Type 0} (p : X → Bool) (xs : List X) → list_any p xs ≡ true → (x : X) × Contains xs x × (p x ≡ true)
any_member p [] any = absurd (true≢false (sym any))
any_member p (x ∷ xs) any = elim (or_cases (p x) (list_any p xs) any) [
  | inl here ↦ (x, Contains-head x xs, here)
  | inr later ↦ (let w = any_member p xs later in (w.0, Contains-cons x xs w.0 w.1, w.2))
]

-- an item of a list that passes makes the test tell that some item does
pub any_from : {X : Type 0} (p : X → Bool) (xs : List X) (x : X) → Contains xs x → p x ≡ true → list_any p xs ≡ true
any_from p xs x c passes = list_any_at p xs c.0 x c.1 (ap p c.2 ∙ passes)

-- ---- whether a list of numbers has one

-- where a list has a number, the test whether it does finds it
pub holds_from : (numbers : List ℕ) (n : ℕ) → Contains numbers n → list_any (λ m. eqb m n) numbers ≡ true
holds_from numbers n c = any_from (λ m. eqb m n) numbers n c (eq-eqb n n refl)

-- where the test whether a list has a number finds it, the list has it
pub in_from_holds : (numbers : List ℕ) (n : ℕ) → list_any (λ m. eqb m n) numbers ≡ true → Contains numbers n
in_from_holds numbers n held =
    let found = any_member (λ m. eqb m n) numbers held in
    subst (Contains numbers) (eqb-true found.0 n found.2) found.1

-- a number put at the end of a list is found in it
pub pushed_is_held : (numbers : List ℕ) (n : ℕ) → list_any (λ m. eqb m n) (numbers ++ n ∷ []) ≡ true
pushed_is_held numbers n = holds_from (numbers ++ n ∷ []) n (Contains-push numbers n)

-- a number that was taken out of a list is not found in it
pub removed_is_not_held : (numbers : List ℕ) (n : ℕ) → list_any (λ m. eqb m n) (filter (λ m. not (eqb m n)) numbers) ≡ false
removed_is_not_held numbers n =
    list_any_none (λ m. eqb m n) (filter (λ m. not (eqb m n)) numbers)
    (All-weaker (λ m. not (eqb m n) ≡ true) (λ m. eqb m n ≡ false) (λ m e. not-true (eqb m n) e) (filter (λ m. not (eqb m n)) numbers)
    (filter_passes (λ m. not (eqb m n)) numbers))

-- taking a number out of a list changes for no other number whether it is found in it
pub others_held_after_removal : (numbers : List ℕ) (n x : ℕ) → (x ≡ n → ⊥)
    → list_any (λ m. eqb m x) (filter (λ m. not (eqb m n)) numbers) ≡ list_any (λ m. eqb m x) numbers
others_held_after_removal numbers n x other =
    any-filter_same (λ m. eqb m x) (λ m. not (eqb m n)) true
    (λ m e. not_from_false (eqb m n) (ne_eqb m n (λ same. other (sym (eqb-true m x e) ∙ same)))) numbers

-- a filter leaves a number that passes
pub filtered_holds : (p : ℕ → Bool) (numbers : List ℕ) (n : ℕ) → list_any (λ m. eqb m n) (filter p numbers) ≡ (p n && list_any (λ m. eqb m n) numbers)
filtered_holds p numbers n = any-filter_same (λ m. eqb m n) p (p n) (λ m same. ap p (eqb-true m n same)) numbers
