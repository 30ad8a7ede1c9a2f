-- What a filter leaves of a list.
use Rattle.std.proofs.Common.{◌≡◌, Bool, true, cond, ◌&&◌, List, [], ◌∷◌, refl, sym, ap, ◌∙◌, inl, inr}
use Rattle.std.specs.List.{filter, Contains}
use Rattle.std.proofs.lemmas.Bool.{cond-true, cond-false, cases_Bool}
use Rattle.gc_graph.specs.Members.{Contains-head, Contains-cons}

module _ {X : Type 0} where
  -- two tests that agree at each element keep the same elements
  pub filter_same : (p q : X → Bool) (xs : List X) → ((x : X) → Contains xs x → p x ≡ q x) → filter p xs ≡ filter q xs
  filter_same p q [] agree = refl
  filter_same p q (x ∷ xs) agree =
      ap (λ t. cond t (x ∷ filter p xs) (filter p xs)) (agree x (Contains-head x xs))
      ∙ ap (λ l. cond (q x) (x ∷ l) l) (filter_same p q xs (λ y there. agree y (Contains-cons x xs y there)))

  pub filter_filter : (p q : X → Bool) (xs : List X) → filter p (filter q xs) ≡ filter (λ x. q x && p x) xs
  filter_filter p q [] = refl
  filter_filter p q (x ∷ xs) = elim (cases_Bool (q x)) [
    | inl kept ↦
        ap (filter p) (cond-true (q x) (x ∷ filter q xs) (filter q xs) kept)
        ∙ ap (λ l. cond (p x) (x ∷ l) l) (filter_filter p q xs)
        ∙ ap (λ t. cond (t && p x) (x ∷ filter (λ y. q y && p y) xs) (filter (λ y. q y && p y) xs)) (sym kept)
    | inr dropped ↦
        ap (filter p) (cond-false (q x) (x ∷ filter q xs) (filter q xs) dropped)
        ∙ filter_filter p q xs
        ∙ ap (λ t. cond (t && p x) (x ∷ filter (λ y. q y && p y) xs) (filter (λ y. q y && p y) xs)) (sym dropped)
  ]

  pub filter_all : (p : X → Bool) (xs : List X) → ((x : X) → Contains xs x → p x ≡ true) → filter p xs ≡ xs
  filter_all p [] passes = refl
  filter_all p (x ∷ xs) passes =
      cond-true (p x) (x ∷ filter p xs) (filter p xs) (passes x (Contains-head x xs))
      ∙ ap (λ l. x ∷ l) (filter_all p xs (λ y there. passes y (Contains-cons x xs y there)))
