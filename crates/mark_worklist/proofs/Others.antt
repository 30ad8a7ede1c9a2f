-- The lists before a number, without the one of a share.
use Rattle.std.proofs.Common.{◌≡◌, ◌≢◌, ℕ, zero, suc, ◌+◌, ◌<◌, List, [], ◌∷◌, ◌++◌, length, take, get_or, refl, sym, ap, ◌∙◌, arith}
use Rattle.std.specs.List.{remove}
use Rattle.std.proofs.lemmas.List.{take_more}

abbrev nil : {X : Type 0} → List X
nil = []

one : (n : ℕ) → n + 1 ≡ suc n
one n = omega arith

pub none-left : {X : Type 0} (p : ℕ) → remove (nil {X = X}) p ≡ []
none-left zero = refl
none-left (suc p) = refl

-- one more list comes, which isn't the share's own
others-next : {X : Type 0} (names : List X) (d p : ℕ) (x : X) → d < length names → p ≢ d
    → remove (take (suc d) names) p ≡ remove (take d names) p ++ get_or names d x ∷ []
others-next [] d p x lt apart = absurd (omega (arith, lt))
others-next (y ∷ ys) zero zero x lt apart = absurd (apart refl)
others-next (y ∷ ys) zero (suc p) x lt apart = ap (λ l. y ∷ l) (none-left p)
others-next (y ∷ ys) (suc d) zero x lt apart = ap (λ n. take n ys) (sym (one d)) ∙ take_more ys d x (omega (arith, lt))
others-next (y ∷ ys) (suc d) (suc p) x lt apart = ap (λ l. y ∷ l) (others-next ys d p x (omega (arith, lt)) (λ same. apart (ap suc same)))

-- one more list comes, which is the share's own
others-last : {X : Type 0} (names : List X) (d : ℕ) → remove (take (suc d) names) d ≡ remove (take d names) d
others-last [] zero = refl
others-last [] (suc d) = refl
others-last (y ∷ ys) zero = refl
others-last (y ∷ ys) (suc d) = ap (λ l. y ∷ l) (others-last ys d)

pub others-more : {X : Type 0} (names : List X) (d p : ℕ) (x : X) → d < length names → p ≢ d
    → remove (take (d + 1) names) p ≡ remove (take d names) p ++ get_or names d x ∷ []
others-more names d p x lt apart = ap (λ n. remove (take n names) p) (one d) ∙ others-next names d p x lt apart

pub others-same : {X : Type 0} (names : List X) (d : ℕ) → remove (take (d + 1) names) d ≡ remove (take d names) d
others-same names d = ap (λ n. remove (take n names) d) (one d) ∙ others-last names d
