-- The word `weak`, which ends the list before it in version 2.
use Rattle.std.proofs.Common.{◌≡◌, ℕ, ◌&&◌, Bool, true, false, cond, List, [], ◌∷◌, ◌++◌, refl, sym, ap, ◌∙◌, inl, inr}
use Rattle.std.specs.Prelude.{codes}
use Rattle.std.specs.List.{list_all}
use Rattle.std.specs.Cmp.Lexicographic.{bytes_decides}
use Rattle.std.proofs.lemmas.Bool.{true≢false, cases_Bool, cond-true, cond-false, and_parts, and_right, not_from_true}
use Rattle.std.proofs.lemmas.List.{append-nil}
use Rattle.gc_graph.specs.Words.{is_text, is_number}
use Rattle.gc_graph.specs.Forms.{before_weak, from_weak}
use Rattle.heap_script.specs.TypeLines.{ended_by, left_by, is_misnamed}

-- ---- each word stands in one of the lists

split_weak : (words : List (List ℕ)) → before_weak words ++ from_weak words ≡ words
split_weak [] = refl
split_weak (word ∷ words) = by_word (is_text word (codes "weak")) (split_weak words) where
  by_word : (is : Bool) → before_weak words ++ from_weak words ≡ words
      → cond is [] (word ∷ before_weak words) ++ cond is (word ∷ words) (from_weak words) ≡ word ∷ words
  by_word true rest = refl
  by_word false rest = ap (λ ws. word ∷ ws) rest

pub both_lists : (stops : Bool) (words : List (List ℕ)) → ended_by stops words ++ left_by stops words ≡ words
both_lists true words = split_weak words
both_lists false words = append-nil words

-- the second one begins with `weak`
from_named : (words : List (List ℕ)) → is_misnamed (codes "weak") (from_weak words) ≡ false
from_named [] = refl
from_named (word ∷ words) = by_word (is_text word (codes "weak")) refl (from_named words) where
  by_word : (is : Bool) → is_text word (codes "weak") ≡ is → is_misnamed (codes "weak") (from_weak words) ≡ false
      → is_misnamed (codes "weak") (cond is (word ∷ words) (from_weak words)) ≡ false
  by_word true e rest = not_from_true (is_text word (codes "weak")) e
  by_word false e rest = rest

pub weak_named : (stops : Bool) (words : List (List ℕ)) → is_misnamed (codes "weak") (left_by stops words) ≡ false
weak_named true words = from_named words
weak_named false words = refl

-- ---- words before it

-- no number is this word
no_weak : (word : List ℕ) → is_number word ≡ true → is_text word (codes "weak") ≡ false
no_weak word number = elim (cases_Bool (is_text word (codes "weak"))) [
  | inl is ↦ absurd (true≢false (sym number ∙ ap is_number ((bytes_decides word (codes "weak")).0 is)))
  | inr other ↦ other
]

pub before_cons : (word : List ℕ) (words : List (List ℕ)) → is_text word (codes "weak") ≡ false → before_weak (word ∷ words) ≡ word ∷ before_weak words
before_cons word words other = cond-false (is_text word (codes "weak")) [] (word ∷ before_weak words) other

pub from_cons : (word : List ℕ) (words : List (List ℕ)) → is_text word (codes "weak") ≡ false → from_weak (word ∷ words) ≡ from_weak words
from_cons word words other = cond-false (is_text word (codes "weak")) (word ∷ words) (from_weak words) other

-- numbers, and words after them
before_append : (numbers words : List (List ℕ)) → list_all is_number numbers ≡ true → before_weak (numbers ++ words) ≡ numbers ++ before_weak words
before_append [] words all = refl
before_append (word ∷ numbers) words all =
    let parts = and_parts (is_number word) (list_all is_number numbers) all in
    before_cons word (numbers ++ words) (no_weak word parts.0) ∙ ap (λ ws. word ∷ ws) (before_append numbers words parts.1)

from_append : (numbers words : List (List ℕ)) → list_all is_number numbers ≡ true → from_weak (numbers ++ words) ≡ from_weak words
from_append [] words all = refl
from_append (word ∷ numbers) words all =
    let parts = and_parts (is_number word) (list_all is_number numbers) all in
    from_cons word (numbers ++ words) (no_weak word parts.0) ∙ from_append numbers words parts.1

-- numbers up to the end of the line
pub numbers_ended : (stops : Bool) (numbers : List (List ℕ)) → list_all is_number numbers ≡ true
    → (ended_by stops numbers ≡ numbers) × (left_by stops numbers ≡ [])
numbers_ended true numbers all = (
  ap before_weak (sym (append-nil numbers)) ∙ before_append numbers [] all ∙ append-nil numbers,
  ap from_weak (sym (append-nil numbers)) ∙ from_append numbers [] all,
)
numbers_ended false numbers all = (refl, refl)

-- numbers up to the word `weak`
pub numbers_stopped : (numbers words : List (List ℕ)) (word : List ℕ) → list_all is_number numbers ≡ true → is_text word (codes "weak") ≡ true
    → (before_weak (numbers ++ word ∷ words) ≡ numbers) × (from_weak (numbers ++ word ∷ words) ≡ codes "weak" ∷ words)
numbers_stopped numbers words word all is = (
  before_append numbers (word ∷ words) all ∙ ap (λ ws. numbers ++ ws) (cond-true (is_text word (codes "weak")) [] (word ∷ before_weak words) is) ∙ append-nil numbers,
  from_append numbers (word ∷ words) all ∙ cond-true (is_text word (codes "weak")) (word ∷ words) (from_weak words) is
      ∙ ap (λ w. w ∷ words) ((bytes_decides word (codes "weak")).0 is),
)

-- a word that is none, after numbers
no_number_by : (numbers more : List (List ℕ)) (word : List ℕ) → is_number word ≡ false → list_all is_number (numbers ++ word ∷ more) ≡ false
no_number_by [] more word bad = rw bad refl
no_number_by (number ∷ numbers) more word bad = and_right (is_number number) (list_all is_number (numbers ++ word ∷ more)) (no_number_by numbers more word bad)

pub no_number : (stops : Bool) (numbers words : List (List ℕ)) (word : List ℕ) → list_all is_number numbers ≡ true → is_number word ≡ false
    → (stops && is_text word (codes "weak")) ≡ false → list_all is_number (ended_by stops (numbers ++ word ∷ words)) ≡ false
no_number false numbers words word all bad other = no_number_by numbers words word bad
no_number true numbers words word all bad other =
    ap (list_all is_number) (before_append numbers (word ∷ words) all ∙ ap (λ ws. numbers ++ ws) (before_cons word words other))
    ∙ no_number_by numbers (before_weak words) word bad
