-- One share after the other is taken in, and what they have is counted.
use Rattle.std.proofs.Common.{◌≡◌, ◌≢◌, ℕ, ◌+◌, ◌<◌, List, [], ◌∷◌, ◌++◌, length, take, get_or, sym, ap, ◌∙◌, inl, inr, IsPermutation, arith}
use Rattle.std.specs.List.{Contains, count_by, remove}
use Rattle.std.proofs.lemmas.List.{get_or_append_left, get_or_push, get_or_default}
use Rattle.std.proofs.lemmas.List.Sums.{sum_by_more}
use Rattle.std.proofs.lemmas.List.Sorted.{Contains-permutation, IsPermutation-remove, IsPermutation-more}
use Rattle.std.proofs.lemmas.Bool.{cases_lt}
use Rattle.gc_graph.specs.Members.{Contains-cons_cases}
use Rattle.mark_worklist.specs.Hands.{laid, drawn, IsLeft}
use Rattle.mark_worklist.specs.Shares.{ShareState}
use Rattle.mark_worklist.specs.Families.{at, nobody}
use Rattle.mark_worklist.specs.Joining.{OwnLeft}
use Rattle.mark_worklist.proofs.Items.{count-append}

module _ (rest : List ShareState) (i : ℕ) (s : ShareState) (within : i < length rest) (is : s ≡ at rest i) where
  here : s ≡ get_or rest i s
  here = is ∙ get_or_default rest i nobody s within

  -- the share goes from the rest to the family
  pub moved : (all family : List ShareState) → IsPermutation all (family ++ rest) → IsPermutation all ((family ++ s ∷ []) ++ remove rest i)
  moved all family same = IsPermutation-more all family rest i s within here same

  -- a share with another number is still to come
  pub still-coming : (n : ℕ) → s.number ≢ n → (t : ShareState) × Contains rest t × (t.number ≡ n) → (t : ShareState) × Contains (remove rest i) t × (t.number ≡ n)
  still-coming n other (t, there, numbered) =
      elim (Contains-cons_cases s (remove rest i) t (Contains-permutation rest (s ∷ remove rest i) t (IsPermutation-remove rest i s within here) there)) [
        | inl same ↦ absurd (other (ap (λ (u : ShareState). u.number) same ∙ numbered))
        | inr later ↦ (t, later, numbered)
      ]

pub numbered-more : (family : List ShareState) (s : ShareState) (n : ℕ) → length family ≡ n → s.number ≡ n
    → ((k : ℕ) → k < n → (at family k).number ≡ k) → (k : ℕ) → k < n + 1 → (at (family ++ s ∷ []) k).number ≡ k
numbered-more family s n long is each k l = elim (cases_lt k n) [
  | inl before ↦ ap (λ t. t.number) (get_or_append_left family (s ∷ []) nobody k (omega (arith, before, long))) ∙ each k before
  | inr after ↦ (let last : k ≡ n = omega (arith, l, after) in ap (λ t. t.number) (get_or_push family s nobody k (long ∙ sym last)) ∙ is ∙ sym last)
]

-- one more share's items are counted
pub left-more : (shares : List ShareState) (i : ℕ) (items more : List ℕ) → i < length shares → OwnLeft (take i shares) items
    → IsLeft (at shares i).own.hand more → OwnLeft (take (i + 1) shares) (items ++ more)
left-more shares i items more within so here asked = omega (
  arith,
  so asked,
  here asked,
  sum_by_more (λ s. count_by asked (laid s.own.hand)) shares i nobody within,
  sum_by_more (λ s. count_by asked (drawn s.own.hand)) shares i nobody within,
  count-append asked items more,
)
