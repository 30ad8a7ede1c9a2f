-- Lists changed element by element.
use Rattle.std.proofs.Common.{◌≡◌, ◌+◌, List, [], ◌∷◌, ◌++◌, length, get_or, set, map, refl, ap, ◌∙◌, arith}
use Rattle.std.specs.List.{Contains}
use Rattle.gc_graph.specs.Members.{Contains-head, Contains-cons}

module _ {X : Type 0} where
  pub map_same : (f g : X → X) (xs : List X) → ((x : X) → Contains xs x → f x ≡ g x) → map f xs ≡ map g xs
  map_same f g [] same = refl
  map_same f g (x ∷ xs) same =
      ap (λ y. y ∷ map f xs) (same x (Contains-head x xs))
      ∙ ap (λ ys. g x ∷ ys) (map_same f g xs (λ y there. same y (Contains-cons x xs y there)))

  pub map_stays : (f : X → X) (xs : List X) → ((x : X) → Contains xs x → f x ≡ x) → map f xs ≡ xs
  map_stays f [] same = refl
  map_stays f (x ∷ xs) same =
      ap (λ y. y ∷ map f xs) (same x (Contains-head x xs))
      ∙ ap (λ ys. x ∷ ys) (map_stays f xs (λ y there. same y (Contains-cons x xs y there)))

  pub map_after : (f g : X → X) (xs : List X) → map f (map g xs) ≡ map (λ x. f (g x)) xs
  map_after f g [] = refl
  map_after f g (x ∷ xs) = ap (λ ys. f (g x) ∷ ys) (map_after f g xs)

  -- the element after the first ones
  pub at_seam : (before : List X) (x d : X) (after : List X) → get_or (before ++ x ∷ after) (length before) d ≡ x
  at_seam [] x d after = refl
  at_seam (y ∷ before) x d after = at_seam before x d after

  pub set_seam : (before : List X) (x y : X) (after : List X) → set (before ++ x ∷ after) (length before) y ≡ before ++ y ∷ after
  set_seam [] x y after = refl
  set_seam (z ∷ before) x y after = ap (λ zs. z ∷ zs) (set_seam before x y after)

  pub append_one : (before : List X) (x : X) (after : List X) → before ++ x ∷ after ≡ (before ++ x ∷ []) ++ after
  append_one [] x after = refl
  append_one (y ∷ before) x after = ap (λ ys. y ∷ ys) (append_one before x after)

  pub length_push : (before : List X) (x : X) → length (before ++ x ∷ []) ≡ length before + 1
  length_push [] x = refl
  length_push (y ∷ before) x = omega (arith, length_push before x)
