-- Lists of places with one more at the end.
use Rattle.std.proofs.Common.{◌≡◌, ℕ, Bool, true, false, ◌||◌, List, [], ◌∷◌, ◌++◌, refl, sym, ap, ◌∙◌, inl, inr, eqb}
use mathlib.Core.Logic.{◌⊎◌}
use Rattle.std.proofs.lemmas.Bool.{true≢false, or_cases, or_left, eqb-true, ne_eqb}
use Rattle.std.proofs.lemmas.List.Folds.{list_any-append}
use Rattle.marker_core.specs.Bodies.{holds}

pub holds-push : (places : List ℕ) (a p : ℕ) → holds (places ++ a ∷ []) p ≡ (holds places p || (eqb a p || false))
holds-push places a p = list_any-append (λ q. eqb q p) places (a ∷ [])

pub holds_push_old : (places : List ℕ) (a p : ℕ) → holds places p ≡ true → holds (places ++ a ∷ []) p ≡ true
holds_push_old places a p h = holds-push places a p ∙ or_left (holds places p) _ h

pub holds_push_cases : (places : List ℕ) (a p : ℕ) → holds (places ++ a ∷ []) p ≡ true → (holds places p ≡ true) ⊎ (a ≡ p)
holds_push_cases places a p h =
    elim (or_cases (holds places p) (eqb a p || false) (sym (holds-push places a p) ∙ h)) [
      | inl old ↦ inl old
      | inr new ↦ elim (or_cases (eqb a p) false new) [ inl e ↦ inr (eqb-true a p e) | inr never ↦ absurd (true≢false (sym never)) ]
    ]

pub holds_push_other : (places : List ℕ) (a p : ℕ) → (a ≡ p → ⊥) → holds (places ++ a ∷ []) p ≡ holds places p
holds_push_other places a p ne =
    holds-push places a p ∙ ap (λ b. holds places p || (b || false)) (ne_eqb a p ne) ∙ unit (holds places p) where
      unit : (b : Bool) → (b || (false || false)) ≡ b
      unit true = refl
      unit false = refl
