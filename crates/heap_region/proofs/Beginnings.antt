-- Beginnings of a list, and what follows them.
use Rattle.std.proofs.Common.{◌≡◌, ℕ, zero, suc, ◌≤◌, List, [], ◌∷◌, ◌++◌, take, drop, All, Contains, refl, sym, ap, ◌∙◌, arith}
use Rattle.std.proofs.lemmas.List.{take-append-drop}
use Rattle.std.proofs.lemmas.List.Elements.{All-head}

take_take : {X : Type 0} (n k : ℕ) (xs : List X) → n ≤ k → take n (take k xs) ≡ take n xs
take_take zero k xs low = refl
take_take (suc n) zero xs low = absurd (omega (arith, low))
take_take (suc n) (suc k) [] low = refl
take_take (suc n) (suc k) (x ∷ xs) low = ap (λ l. x ∷ l) (take_take n k xs (omega (arith, low)))

-- a beginning is a shorter one with what follows in it
pub take_on : {X : Type 0} (n k : ℕ) (xs : List X) → n ≤ k → take k xs ≡ take n xs ++ drop n (take k xs)
take_on n k xs low = sym (take-append-drop n (take k xs)) ∙ ap (λ l. l ++ drop n (take k xs)) (take_take n k xs low)

-- what follows the same beginning in one list is the same
pub same_behind : {X : Type 0} (xs ys zs : List X) → xs ++ ys ≡ xs ++ zs → ys ≡ zs
same_behind [] ys zs e = e
same_behind (x ∷ xs) ys zs e = same_behind xs ys zs (ap (drop 1) e)

-- what names a number of an empty list
pub none_named : {X : Type 0} (name : X → ℕ) (xs : List X) → All (λ x. Contains [] (name x)) xs → xs ≡ []
none_named name [] all = refl
none_named name (x ∷ xs) all = absurd (let there = All-head (λ y. Contains [] (name y)) x xs all in omega (arith, there.1))
