-- A list of addresses and one more.
use Rattle.std.proofs.Common.{◌≡◌, ℕ, ◌+◌, List, [], ◌∷◌, ◌++◌, length, refl, sym, ap, ◌∙◌, subst, inl, inr, arith}
use mathlib.Core.Logic.{◌⊎◌}
use Rattle.std.specs.List.{Contains}
use Rattle.std.proofs.lemmas.List.{append-nil, length-append}
use Rattle.std.proofs.lemmas.List.Elements.{Contains-append_left, Contains-append_right, Contains-append_cases}
use Rattle.gc_graph.specs.Members.{Contains-head, Contains-cons, Contains-cons_cases}
use Rattle.mark_worklist.specs.Lists.{IsOneMore}

-- one more at the end is one more
pub at_the_end : (items : List ℕ) (a : ℕ) → IsOneMore items a (items ++ a ∷ [])
at_the_end items a = record { before = items; after = []; others = sym (append-nil items); all = refl }

module _ (short long : List ℕ) (a : ℕ) (more : IsOneMore short a long) where
  pub one_longer : length long ≡ length short + 1
  one_longer =
      let whole = ap length more.all ∙ length-append more.before (a ∷ more.after) in
      let rest = ap length more.others ∙ length-append more.before more.after in
      omega (arith, whole, rest)

  pub is_there : Contains long a
  is_there = subst (λ l. Contains l a) (sym more.all) (Contains-append_right more.before (a ∷ more.after) a (Contains-head a more.after))

  pub still_there : (p : ℕ) → Contains short p → Contains long p
  still_there p there = subst (λ l. Contains l p) (sym more.all) (elim (Contains-append_cases more.before more.after p (subst (λ l. Contains l p) more.others there)) [
    | inl early ↦ Contains-append_left more.before (a ∷ more.after) p early
    | inr late ↦ Contains-append_right more.before (a ∷ more.after) p (Contains-cons a more.after p late)
  ])

  pub was_there : (p : ℕ) → Contains long p → Contains short p ⊎ (a ≡ p)
  was_there p there = elim (Contains-append_cases more.before (a ∷ more.after) p (subst (λ l. Contains l p) more.all there)) [
    | inl early ↦ inl (subst (λ l. Contains l p) (sym more.others) (Contains-append_left more.before more.after p early))
    | inr late ↦ elim (Contains-cons_cases a more.after p late) [
      | inl here ↦ inr here
      | inr later ↦ inl (subst (λ l. Contains l p) (sym more.others) (Contains-append_right more.before more.after p later))
    ]
  ]
