-- How often a place stands in a list.
use Rattle.std.proofs.Common.{◌≡◌, ℕ, ◌+◌, ◌<◌, List, [], ◌∷◌, ◌++◌, true, false, cond, not, eqb, ltb, refl, sym, ap, ◌∙◌, inl, inr, arith}
use Rattle.std.proofs.lemmas.Bool.{cases_Bool, eq-eqb, eqb-true, ne_eqb, lt-ltb, ltb-true, ltb-false, le-ltb}
use Rattle.std.proofs.lemmas.List.Sums.{sum_by-cons, sum_by-append, sum_by_push}
use Rattle.marker_core.specs.Bodies.{without}
use Rattle.marker_core.specs.Views.{times}

-- one occurrence of a, or none
abbrev pub one_if : ℕ → ℕ → ℕ
one_if a p = cond (eqb p a) 1 0

pub one_same : (a : ℕ) → one_if a a ≡ 1
one_same a = ap (λ t. cond t 1 0) (eq-eqb a a refl)

pub one_other : (a p : ℕ) → (p ≡ a → ⊥) → one_if a p ≡ 0
one_other a p other = ap (λ t. cond t 1 0) (ne_eqb p a other)

pub times_cons : (a p : ℕ) (places : List ℕ) → times a (p ∷ places) ≡ one_if a p + times a places
times_cons a p places = sum_by-cons (one_if a) p places

pub times_append : (a : ℕ) (places more : List ℕ) → times a (places ++ more) ≡ times a places + times a more
times_append a places more = sum_by-append (one_if a) places more

pub times_push_same : (a : ℕ) (places : List ℕ) → times a (places ++ a ∷ []) ≡ times a places + 1
times_push_same a places = sum_by_push (one_if a) places a ∙ ap (λ n. times a places + n) (one_same a)

pub times_push_other : (a x : ℕ) (places : List ℕ) → (x ≡ a → ⊥) → times x (places ++ a ∷ []) ≡ times x places
times_push_other a x places other =
    sum_by_push (one_if x) places a ∙ ap (λ n. times x places + n) (one_other x a (λ e. other (sym e))) ∙ omega arith

pub times_without_same : (a : ℕ) (places : List ℕ) → times a (without places a) ≡ 0
times_without_same a [] = refl
times_without_same a (p ∷ places) = elim (cases_Bool (eqb p a)) [
  | inl same ↦ ap (λ t. times a (cond (not t) (p ∷ without places a) (without places a))) same ∙ times_without_same a places
  | inr other ↦
      ap (λ t. times a (cond (not t) (p ∷ without places a) (without places a))) other ∙ times_cons a p (without places a)
      ∙ ap (λ t. cond t 1 0 + times a (without places a)) other ∙ omega (arith, times_without_same a places)
]

pub times_without_other : (a x : ℕ) (places : List ℕ) → (x ≡ a → ⊥) → times x (without places a) ≡ times x places
times_without_other a x [] other = refl
times_without_other a x (p ∷ places) other = elim (cases_Bool (eqb p a)) [
  | inl same ↦
      (let off : one_if x p ≡ 0 = one_other x p (λ e. other (sym e ∙ eqb-true p a same)) in
      ap (λ t. times x (cond (not t) (p ∷ without places a) (without places a))) same
      ∙ omega (arith, times_without_other a x places other, times_cons x p places))
  | inr apart ↦
      ap (λ t. times x (cond (not t) (p ∷ without places a) (without places a))) apart ∙ times_cons x p (without places a)
      ∙ ap (λ n. one_if x p + n) (times_without_other a x places other) ∙ sym (times_cons x p places)
]

-- ---- counts as tests

pub some_is_true : (n : ℕ) → 0 < n → ltb 0 n ≡ true
some_is_true n some = lt-ltb 0 n some

pub true_is_some : (n : ℕ) → ltb 0 n ≡ true → 0 < n
true_is_some n on = ltb-true 0 n on

pub none_is_false : (n : ℕ) → n ≡ 0 → ltb 0 n ≡ false
none_is_false n none = le-ltb 0 n (omega arith)

pub false_is_none : (n : ℕ) → ltb 0 n ≡ false → n ≡ 0
false_is_none n off = omega (arith, ltb-false 0 n off)
