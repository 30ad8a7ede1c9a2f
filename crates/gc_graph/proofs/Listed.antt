-- What holds of each member of a list of numbers.
use Rattle.std.proofs.Common.{◌≡◌, ℕ, suc, ◌+◌, ◌<◌, Bool, true, false, ◌||◌, List, [], ◌∷◌, length, get_or, refl, sym, ap, ◌∙◌, subst, inl, inr, arith, eqb, IsTrue, ◌↔◌}
use Rattle.std.specs.Bool.{MatchBool}
use Rattle.std.specs.List.{list_all}
use Rattle.std.specs.List.Sorted.{IsNonDecreasing}
use Rattle.std.proofs.lemmas.Bool.{true≢false, or_cases, or_left, or_right, and_parts, and_from, eqb-true, eq-eqb, ne_eqb}
use Rattle.gc_graph.specs.Checking.{is_listed}

-- a test that each member passes
pub each_passes : (test : ℕ → Bool) (members : List ℕ) → list_all test members ≡ true → (n : ℕ) → is_listed members n ≡ true → test n ≡ true
each_passes test [] all n listed = absurd (true≢false (sym listed))
each_passes test (m ∷ members) all n listed =
    let both = and_parts (test m) (list_all test members) all in
    elim (or_cases (eqb m n) (is_listed members n) listed) [
      | inl here ↦ subst (λ x. test x ≡ true) (eqb-true m n here) both.0
      | inr rest ↦ each_passes test members both.1 n rest
    ]

pub all_pass : (test : ℕ → Bool) (members : List ℕ) → ((n : ℕ) → is_listed members n ≡ true → test n ≡ true) → list_all test members ≡ true
all_pass test [] each = refl
all_pass test (m ∷ members) each =
    and_from (test m) (list_all test members) (each m (or_left (eqb m m) (is_listed members m) (eq-eqb m m refl)))
    (all_pass test members (λ n listed. each n (or_right (eqb m n) (is_listed members n) listed)))

-- what no index has is no member
pub not_listed : (members : List ℕ) (n : ℕ) → ((k : ℕ) → k < length members → get_or members k 0 ≡ n → ⊥) → is_listed members n ≡ false
not_listed [] n none = refl
not_listed (m ∷ members) n none =
    ap (λ b. b || is_listed members n) (ne_eqb m n (λ e. none 0 (omega arith) e))
    ∙ not_listed members n (λ k below e. none (suc k) (omega arith) e)

-- a test of neighbours tells whether numbers ascend
pub ascends : (xs : List ℕ) (r : Bool) → MatchBool r (IsNonDecreasing xs) ((k : ℕ) × (k + 1 < length xs) × ((d : ℕ) → get_or xs (k + 1) d < get_or xs k d))
    → IsTrue r ↔ IsNonDecreasing xs
ascends xs true up = ((λ yes. up), (λ all. refl))
ascends xs false down = ((λ yes. absurd (true≢false (sym yes))), (λ all. absurd (omega (arith, down.2 0, all down.0 (down.0 + 1) 0 (omega arith) down.1))))
