-- A test that some number below a bound passes.
use Rattle.std.proofs.Common.{◌≡◌, ℕ, zero, suc, ◌<◌, Bool, true, sym, subst, inl, inr, arith}
use Rattle.std.proofs.lemmas.Bool.{true≢false, or_cases, or_left, or_right, cases_lt}
use Rattle.gc_graph.specs.Reach.{any_below}

-- a number below the bound that passes tells that some number below the bound does
pub any_below-from : (p : ℕ → Bool) (n i : ℕ) → i < n → p i ≡ true → any_below p n ≡ true
any_below-from p zero i l h = absurd (omega arith)
any_below-from p (suc n) i l h =
    elim (cases_lt i n) [
      | inl below ↦ or_right (p n) (any_below p n) (any_below-from p n i below h)
      | inr up ↦ (let e : i ≡ n = omega arith in or_left (p n) (any_below p n) (subst (λ x. p x ≡ true) e h))
    ]

-- where some number below a bound passes, there is one that passes; that it is below isn't told
pub any_below-some : (p : ℕ → Bool) (n : ℕ) → any_below p n ≡ true → (i : ℕ) × (p i ≡ true)
any_below-some p zero h = absurd (true≢false (sym h))
any_below-some p (suc n) h = elim (or_cases (p n) (any_below p n) h) [ inl here ↦ (n, here) | inr below ↦ any_below-some p n below ]
