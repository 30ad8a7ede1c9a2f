-- Counts of places that are not marked or traced, and of bodies that are traced.
use Rattle.std.proofs.Common.{◌≡◌, ℕ, ◌+◌, ◌≤◌, Bool, true, false, not, List, [], ◌∷◌, ◌++◌, refl, sym, ap, ◌∙◌, subst, inl, inr, arith, cond}
use Rattle.std.specs.List.{All, Contains, count_by}
use Rattle.std.proofs.lemmas.Bool.{cases_eq, cond-true, cond-false}
use Rattle.std.proofs.lemmas.List.Elements.{All-head, All-tail}
use Rattle.std.proofs.lemmas.List.Sums.{sum_by-cons}
use Rattle.marker_core.specs.Bodies.{IsPlace, holds}
use Rattle.marker_core.specs.declared.states.Body.{Body}
use Rattle.pair_notes.specs.BodyGraph.{PlacesDiffer}
use Rattle.ephemerons.proofs.Lists.{holds_push_other}
use Rattle.gc_graph.specs.Members.{Contains-cons_cases, pushed_is_held}

abbrev one_if : Bool → ℕ
one_if b = cond b 1 0

missing : (places : List ℕ) (x : ℕ) (xs : List ℕ)
    → count_by (λ p. not (holds places p)) (x ∷ xs) ≡ one_if (not (holds places x)) + count_by (λ p. not (holds places p)) xs
missing places x xs = sum_by-cons (λ p. cond (not (holds places p)) 1 0) x xs

-- one more place is missing no more
step : (places : List ℕ) (a x : ℕ) → one_if (not (holds (places ++ a ∷ []) x)) ≤ one_if (not (holds places x))
step places a x = elim (cases_eq a x) [
  | inl same ↦
      (let here : holds (places ++ a ∷ []) x ≡ true = subst (λ y. holds (places ++ a ∷ []) y ≡ true) same (pushed_is_held places a) in
      let none : one_if (not (holds (places ++ a ∷ []) x)) ≡ 0 = ap (λ t. one_if (not t)) here in
      omega (arith, none))
  | inr other ↦
      (let still : one_if (not (holds (places ++ a ∷ []) x)) ≡ one_if (not (holds places x)) = ap (λ t. one_if (not t)) (holds_push_other places a x other) in
      omega (arith, still))
]

pub no_more : (xs places : List ℕ) (a : ℕ) → count_by (λ p. not (holds (places ++ a ∷ []) p)) xs ≤ count_by (λ p. not (holds places p)) xs
no_more [] places a = omega arith
no_more (x ∷ xs) places a = omega (arith, missing (places ++ a ∷ []) x xs, missing places x xs, step places a x, no_more xs places a)

-- and one fewer, where it was missing
pub one_fewer : (xs places : List ℕ) (a : ℕ) → Contains xs a → holds places a ≡ false
    → count_by (λ p. not (holds (places ++ a ∷ []) p)) xs + 1 ≤ count_by (λ p. not (holds places p)) xs
one_fewer [] places a there fresh = absurd (omega (arith, there.1))
one_fewer (x ∷ xs) places a there fresh = elim (Contains-cons_cases x xs a there) [
  | inl here ↦
      (let now : holds (places ++ a ∷ []) x ≡ true = subst (λ y. holds (places ++ a ∷ []) y ≡ true) (sym here) (pushed_is_held places a) in
      let none : one_if (not (holds (places ++ a ∷ []) x)) ≡ 0 = ap (λ t. one_if (not t)) now in
      let was : one_if (not (holds places x)) ≡ 1 = ap (λ t. one_if (not t)) (ap (holds places) here ∙ fresh) in
      omega (arith, missing (places ++ a ∷ []) x xs, missing places x xs, none, was, no_more xs places a))
  | inr later ↦
      omega (arith, missing (places ++ a ∷ []) x xs, missing places x xs, step places a x, one_fewer xs places a later fresh)
]

-- a place that no body has changes no count
same_heap : (bodies : List Body) (places : List ℕ) (a : ℕ) → All (λ c. c.place ≡ a → ⊥) bodies
    → count_by (λ (b : Body). holds (places ++ a ∷ []) b.place) bodies ≡ count_by (λ (b : Body). holds places b.place) bodies
same_heap [] places a none = refl
same_heap (b ∷ bodies) places a none =
    sum_by-cons (λ (c : Body). cond (holds (places ++ a ∷ []) c.place) 1 0) b bodies
    ∙ ap (λ n. cond (holds (places ++ a ∷ []) b.place) 1 0 + n) (same_heap bodies places a (All-tail (λ (c : Body). c.place ≡ a → ⊥) b bodies none))
    ∙ ap (λ t. cond t 1 0 + count_by (λ (c : Body). holds places c.place) bodies) (holds_push_other places a b.place (λ e. All-head (λ (c : Body). c.place ≡ a → ⊥) b bodies none (sym e)))
    ∙ sym (sum_by-cons (λ (c : Body). cond (holds places c.place) 1 0) b bodies)

pub one_more : (bodies : List Body) (places : List ℕ) (a : ℕ) → PlacesDiffer bodies → IsPlace bodies a → holds places a ≡ false
    → count_by (λ (b : Body). holds (places ++ a ∷ []) b.place) bodies ≡ count_by (λ (b : Body). holds places b.place) bodies + 1
one_more [] places a differ is fresh = absurd (omega (arith, is.1.1))
one_more (b ∷ bodies) places a differ is fresh =
    let new : ℕ = count_by (λ (c : Body). holds (places ++ a ∷ []) c.place) bodies in
    let old : ℕ = count_by (λ (c : Body). holds places c.place) bodies in
    let split_new : count_by (λ (c : Body). holds (places ++ a ∷ []) c.place) (b ∷ bodies) ≡ one_if (holds (places ++ a ∷ []) b.place) + new =
    sum_by-cons (λ (c : Body). cond (holds (places ++ a ∷ []) c.place) 1 0) b bodies in
    let split_old : count_by (λ (c : Body). holds places c.place) (b ∷ bodies) ≡ one_if (holds places b.place) + old =
    sum_by-cons (λ (c : Body). cond (holds places c.place) 1 0) b bodies in
    elim (cases_eq b.place a) [
      | inl here ↦
          (let others : All (λ (c : Body). c.place ≡ a → ⊥) bodies = subst (λ p. All (λ (c : Body). c.place ≡ p → ⊥) bodies) here differ.0 in
          let same : new ≡ old = same_heap bodies places a others in
          let yes : one_if (holds (places ++ a ∷ []) b.place) ≡ 1 =
          cond-true (holds (places ++ a ∷ []) b.place) 1 0 (subst (λ p. holds (places ++ a ∷ []) p ≡ true) (sym here) (pushed_is_held places a)) in
          let none : one_if (holds places b.place) ≡ 0 = cond-false (holds places b.place) 1 0 (subst (λ p. holds places p ≡ false) (sym here) fresh) in
          omega (arith, split_new, split_old, same, yes, none))
      | inr elsewhere ↦
          (let rest : IsPlace bodies a = elim (Contains-cons_cases b bodies is.0 is.1) [
            | inl same ↦ absurd (elsewhere (ap (λ (c : Body). c.place) same ∙ is.2))
            | inr there ↦ (is.0, there, is.2)
          ] in
          let more : new ≡ old + 1 = one_more bodies places a differ.1 rest fresh in
          let still : one_if (holds (places ++ a ∷ []) b.place) ≡ one_if (holds places b.place) =
          ap one_if (holds_push_other places a b.place (λ e. elsewhere (sym e))) in
          omega (arith, split_new, split_old, more, still))
    ]
