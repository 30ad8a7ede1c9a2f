-- Numbers from one up to another.
use Rattle.std.proofs.Common.{◌≡◌, ℕ, ◌+◌, ◌<◌, ◌≤◌, true, false, List, length, get_or, set, cond, sym, ap, ◌∙◌, inl, inr, arith, leb, ltb}
use Rattle.std.proofs.lemmas.Bool.{cases_eq, cases_Bool, and_parts, and_from, leb-true, ltb-true, le-leb, lt-ltb, true≢false}
use Rattle.std.proofs.lemmas.List.{get_or-set_same, get_or-set_other}
use Rattle.gap_bounds.specs.Gaps.{is_between}

-- a number that the test puts between first and end is at least first and below end
pub between_parts : (first end n : ℕ) → is_between first end n ≡ true → (first ≤ n) × (n < end)
between_parts first end n h =
    let both = and_parts (leb first n) (ltb n end) h in
    (leb-true first n both.0, ltb-true n end both.1)

-- a number that is at least first and below end is put between them by the test
pub between_from : (first end n : ℕ) → first ≤ n → n < end → is_between first end n ≡ true
between_from first end n low high = and_from (leb first n) (ltb n end) (le-leb first n low) (lt-ltb n end high)

-- a number that isn't both at least first and below end isn't put between them by the test
pub not_between : (first end n : ℕ) → (first ≤ n → n < end → ⊥) → is_between first end n ≡ false
not_between first end n never =
    elim (cases_Bool (is_between first end n)) [
      | inl holds ↦ absurd (let parts : (first ≤ n) × (n < end) = between_parts first end n holds in never parts.0 parts.1)
      | inr clear ↦ clear
    ]

pub below_false : (first end n : ℕ) → first ≤ n → n < end → is_between first end n ≡ false → ⊥
below_false first end n low high clear = true≢false (sym (between_from first end n low high) ∙ clear)

-- where the end moves on by one, no number but the old end comes to lie between the two, or no longer does
pub between_more : (first end n : ℕ) → (n ≡ end → ⊥) → is_between first (end + 1) n ≡ is_between first end n
between_more first end n other =
    elim (cases_Bool (is_between first end n)) [
      | inl holds ↦
          (let parts : (first ≤ n) × (n < end) = between_parts first end n holds in
          between_from first (end + 1) n parts.0 (let l : n < end = parts.1 in omega arith) ∙ sym holds)
      | inr clear ↦ not_between first (end + 1) n (λ low high. absurd (let never : n < end → ⊥ = (λ l. below_false first end n low l clear) in never (omega (arith, other)))) ∙ sym clear
    ]

-- once the item at page has the value too, those from first through page have it, and the others what they had before
pub values_more : (old mid new : List ℕ) (first page value : ℕ) → page < length mid → first ≤ page
    → ((q : ℕ) → get_or mid q 0 ≡ cond (is_between first page q) value (get_or old q 0)) → new ≡ set mid page value
    → (q : ℕ) → get_or new q 0 ≡ cond (is_between first (page + 1) q) value (get_or old q 0)
values_more old mid new first page value within low so_far is q =
    elim (cases_eq q page) [
      | inl same ↦
          (let here : get_or new q 0 ≡ value = ap (λ xs. get_or xs q 0) is ∙ ap (λ k. get_or (set mid page value) k 0) same ∙ get_or-set_same mid page value 0 within in
          here ∙ sym (ap (λ t. cond t value (get_or old q 0)) (between_from first (page + 1) q (omega arith) (omega arith))))
      | inr other ↦
          (let there : get_or new q 0 ≡ get_or mid q 0 = ap (λ xs. get_or xs q 0) is ∙ get_or-set_other mid page q value 0 other in
          there ∙ so_far q ∙ ap (λ t. cond t value (get_or old q 0)) (sym (between_more first page q other)))
    ]
