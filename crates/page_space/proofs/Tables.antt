-- How the counts of the pages change.
use Rattle.std.proofs.Common.{◌≡◌, ℕ, ◌+◌, ◌<◌, ◌≤◌, Bool, List, length, get_or, set, sym, ap, ◌∙◌, inl, inr, arith, cond}
use Rattle.std.proofs.lemmas.Bool.{cases_eq}
use Rattle.std.proofs.lemmas.List.{get_or-set_same, get_or-set_other}
use Rattle.page_space.specs.Pages.{is_between}
use Rattle.gap_bounds.specs.Spans.{between_from, not_between, between_more}

abbrev one_if : Bool → ℕ
one_if b = cond b 1 0

pub counts_more : (old mid new : List ℕ) (first page : ℕ) → page < length mid → first ≤ page
    → ((q : ℕ) → get_or mid q 0 ≡ get_or old q 0 + one_if (is_between first page q)) → new ≡ set mid page (get_or mid page 0 + 1)
    → (q : ℕ) → get_or new q 0 ≡ get_or old q 0 + one_if (is_between first (page + 1) q)
counts_more old mid new first page within low so_far is q =
    elim (cases_eq q page) [
      | inl same ↦
          (let here : get_or new q 0 ≡ get_or mid page 0 + 1 = ap (λ xs. get_or xs q 0) is ∙ ap (λ k. get_or (set mid page (get_or mid page 0 + 1)) k 0) same ∙ get_or-set_same mid page (get_or mid page 0 + 1) 0 within in
          let none : one_if (is_between first page page) ≡ 0 = ap one_if (not_between first page page (λ l h. omega arith)) in
          let one : one_if (is_between first (page + 1) q) ≡ 1 = ap one_if (between_from first (page + 1) q (omega arith) (omega arith)) in
          omega (arith, here, so_far page, none, one, ap (λ k. get_or old k 0) same))
      | inr other ↦
          (let there : get_or new q 0 ≡ get_or mid q 0 = ap (λ xs. get_or xs q 0) is ∙ get_or-set_other mid page q (get_or mid page 0 + 1) 0 other in
          there ∙ so_far q ∙ ap (λ t. get_or old q 0 + one_if t) (sym (between_more first page q other)))
    ]
