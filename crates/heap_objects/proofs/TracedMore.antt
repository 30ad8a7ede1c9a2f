-- What is held once a list of places follows another; and how many bodies are traced then.
use Rattle.std.proofs.Common.{◌≡◌, ℕ, suc, ◌+◌, ◌≤◌, Bool, true, false, List, [], ◌∷◌, ◌++◌, length, refl, sym, ap, ◌∙◌, subst, inl, inr, cond, eqb, ◌||◌, arith}
use mathlib.Core.Logic.{◌⊎◌}
use Rattle.std.specs.List.{All, Contains, count_by}
use Rattle.std.proofs.lemmas.Bool.{true≢false, cases_Bool, or_cases, or_left, or_right, false_from_ne_true, eqb-true, eq-eqb}
use Rattle.std.proofs.lemmas.List.{append-nil, append_assoc}
use Rattle.std.proofs.lemmas.List.Elements.{All-head, All-tail}
use Rattle.std.proofs.lemmas.List.Folds.{list_any-append}
use Rattle.std.proofs.lemmas.List.Sums.{sum_by-cons, sum_by-append}
use Rattle.gc_graph.specs.Members.{Contains-cons_cases}
use Rattle.marker_core.specs.declared.states.Body.{Body}
use Rattle.marker_core.specs.Bodies.{IsPlace, holds}
use Rattle.marker_core.specs.Views.{times}
use Rattle.marker_crew.specs.BodyGraph.{PlacesDiffer}

-- ---- one list and another

pub held_cases : (xs ys : List ℕ) (p : ℕ) → holds (xs ++ ys) p ≡ true → (holds xs p ≡ true) ⊎ (holds ys p ≡ true)
held_cases xs ys p is = or_cases (holds xs p) (holds ys p) (sym (list_any-append (λ q. eqb q p) xs ys) ∙ is)

pub held_first : (xs ys : List ℕ) (p : ℕ) → holds xs p ≡ true → holds (xs ++ ys) p ≡ true
held_first xs ys p is = list_any-append (λ q. eqb q p) xs ys ∙ or_left (holds xs p) (holds ys p) is

pub held_second : (xs ys : List ℕ) (p : ℕ) → holds ys p ≡ true → holds (xs ++ ys) p ≡ true
held_second xs ys p is = list_any-append (λ q. eqb q p) xs ys ∙ or_right (holds xs p) (holds ys p) is

pub none_first : (xs ys : List ℕ) (p : ℕ) → holds (xs ++ ys) p ≡ false → holds xs p ≡ false
none_first xs ys p none = false_from_ne_true (holds xs p) (λ is. true≢false (sym (held_first xs ys p is) ∙ none))

-- ---- how often a place stands there

abbrev one_if : Bool → ℕ
one_if is = cond is 1 0

times_cons : (a p : ℕ) (places : List ℕ) → times a (p ∷ places) ≡ cond (eqb p a) 1 0 + times a places
times_cons a p places = sum_by-cons (λ q. cond (eqb q a) 1 0) p places

-- a place that is held stands there at least once
some_time : (a : ℕ) (places : List ℕ) → holds places a ≡ true → 1 ≤ times a places
some_time a [] is = absurd (true≢false (sym is))
some_time a (p ∷ places) is = elim (or_cases (eqb p a) (holds places a) is) [
  | inl same ↦ omega (arith, times_cons a p places, ap one_if same)
  | inr later ↦ omega (arith, times_cons a p places, some_time a places later)
]

-- a place that follows others, and stands there once at most, is none of them
other_before : (xs : List ℕ) (y : ℕ) (ys : List ℕ) → times y (xs ++ y ∷ ys) ≤ 1 → holds xs y ≡ false
other_before xs y ys once = false_from_ne_true (holds xs y) (λ is.
    let parts : times y (xs ++ y ∷ ys) ≡ times y xs + times y (y ∷ ys) = sum_by-append (λ q. cond (eqb q y) 1 0) xs (y ∷ ys) in
    let first = some_time y xs is in
    let here : one_if (eqb y y) ≡ 1 = ap one_if (eq-eqb y y refl) in
    omega (arith, once, parts, first, times_cons y y ys, here))

-- ---- how many bodies are traced

abbrev counted : List ℕ → List Body → ℕ
counted places bodies = count_by (λ (b : Body). holds places b.place) bodies

counted_cons : (places : List ℕ) (b : Body) (bodies : List Body) → counted places (b ∷ bodies) ≡ cond (holds places b.place) 1 0 + counted places bodies
counted_cons places b bodies = sum_by-cons (λ (c : Body). cond (holds places c.place) 1 0) b bodies

push_other : (xs : List ℕ) (y q : ℕ) → (q ≡ y → ⊥) → holds (xs ++ y ∷ []) q ≡ holds xs q
push_other xs y q differs =
    list_any-append (λ r. eqb r q) xs (y ∷ []) ∙ ap (λ t. holds xs q || (t || false)) (false_from_ne_true (eqb y q) (λ same. differs (sym (eqb-true y q same))))
    ∙ nothing (holds xs q)
  where
    nothing : (b : Bool) → (b || (false || false)) ≡ b
    nothing true = refl
    nothing false = refl

-- nobody else has the place
same_count : (xs : List ℕ) (y : ℕ) (bodies : List Body) → All (λ c. c.place ≡ y → ⊥) bodies → counted (xs ++ y ∷ []) bodies ≡ counted xs bodies
same_count xs y [] differ = refl
same_count xs y (b ∷ bodies) differ =
    let Is : Body → Type 0 = λ (c : Body). c.place ≡ y → ⊥ in
    let here : holds (xs ++ y ∷ []) b.place ≡ holds xs b.place = push_other xs y b.place (All-head Is b bodies differ) in
    omega (arith, counted_cons (xs ++ y ∷ []) b bodies, counted_cons xs b bodies, ap one_if here, same_count xs y bodies (All-tail Is b bodies differ))

one_more : (xs : List ℕ) (y : ℕ) (bodies : List Body) → PlacesDiffer bodies → IsPlace bodies y → holds xs y ≡ false → counted (xs ++ y ∷ []) bodies ≡ counted xs bodies + 1
one_more xs y [] differ (b, there, at) none = absurd (omega (arith, there.1))
one_more xs y (b ∷ bodies) differ (c, there, at) none = elim (cases_Bool (eqb b.place y)) [
  | inl same ↦
      (let is : b.place ≡ y = eqb-true b.place y same in
      let held : holds (xs ++ y ∷ []) b.place ≡ true = held_second xs (y ∷ []) b.place (ap (λ t. t || false) (eq-eqb y b.place (sym is))) in
      let before : holds xs b.place ≡ false = ap (holds xs) is ∙ none in
      let rest = same_count xs y bodies (subst (λ q. All (λ (d : Body). d.place ≡ q → ⊥) bodies) is differ.0) in
      omega (arith, counted_cons (xs ++ y ∷ []) b bodies, counted_cons xs b bodies, ap one_if held, ap one_if before, rest))
  | inr other ↦
      (let differs : b.place ≡ y → ⊥ = λ is. true≢false (sym (eq-eqb b.place y is) ∙ other) in
      let here : holds (xs ++ y ∷ []) b.place ≡ holds xs b.place = push_other xs y b.place differs in
      let later : IsPlace bodies y = elim (Contains-cons_cases b bodies c there) [
        | inl this ↦ absurd (differs (ap (λ (d : Body). d.place) this ∙ at))
        | inr behind ↦ (c, behind, at)
      ] in
      omega (arith, counted_cons (xs ++ y ∷ []) b bodies, counted_cons xs b bodies, ap one_if here, one_more xs y bodies differ.1 later none))
]

-- places that stand there once at most, each of a body, are as many traced bodies more
pub traced_more : (xs ys : List ℕ) (bodies : List Body) → PlacesDiffer bodies → ((a : ℕ) → times a (xs ++ ys) ≤ 1) → ((a : ℕ) → Contains ys a → IsPlace bodies a)
    → count_by (λ (b : Body). holds (xs ++ ys) b.place) bodies ≡ count_by (λ (b : Body). holds xs b.place) bodies + length ys
traced_more xs [] bodies differ once places = ap (λ l. counted l bodies) (append-nil xs) ∙ omega arith
traced_more xs (y ∷ ys) bodies differ once places =
    let whole : xs ++ y ∷ ys ≡ (xs ++ y ∷ []) ++ ys = sym (append_assoc xs (y ∷ []) ys) in
    let here = one_more xs y bodies differ (places y (0, omega arith, refl)) (other_before xs y ys (once y)) in
    let rest = traced_more (xs ++ y ∷ []) ys bodies differ (λ a. subst (λ l. times a l ≤ 1) whole (once a)) (λ a there. places a (suc there.0, omega (arith, there.1), there.2)) in
    omega (arith, ap (λ l. counted l bodies) whole, here, rest)
