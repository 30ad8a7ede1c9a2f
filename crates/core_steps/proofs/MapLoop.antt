-- A loop that writes a function of each element over it.
use Rattle.std.proofs.Common.{◌≡◌, ℕ, ◌+◌, ◌<◌, List, [], ◌∷◌, ◌++◌, length, get_or, set, map, take, drop, sym, ap, ◌∙◌, arith, append_assoc, length-append, length-drop}
use Rattle.std.specs.List.{range_with_len}
use Rattle.std.proofs.lemmas.List.FromFn.{map-range_with_len_more}
use Rattle.std.proofs.lemmas.List.{length-map, length-take, drop_more, map_more, set_at, get_or_at}

pub mapped_more : {X : Type 0} (f : X → X) (xs ys : List X) (i : ℕ) (x y : X) → ys ≡ map f (take i xs) ++ drop i xs → i < length ys
    → y ≡ f (get_or ys i x) → set ys i y ≡ map f (take (i + 1) xs) ++ drop (i + 1) xs
mapped_more f xs ys i x y is below new =
    let front : length (map f (take i xs)) ≡ length (take i xs) = length-map (take i xs) f in
    let all : length ys ≡ length (map f (take i xs)) + length (drop i xs) = ap length is ∙ length-append (map f (take i xs)) (drop i xs) in
    let within : i < length xs = omega (arith, all, front, length-take i xs, length-drop i xs) in
    let long : length (map f (take i xs)) ≡ i = omega (arith, front, length-take i xs) in
    let split : ys ≡ map f (take i xs) ++ get_or xs i x ∷ drop (i + 1) xs = is ∙ ap (λ r. map f (take i xs) ++ r) (drop_more xs i x within) in
    let same : get_or ys i x ≡ get_or xs i x =
    ap (λ l. get_or l i x) split ∙ get_or_at (map f (take i xs)) (get_or xs i x) (drop (i + 1) xs) x i long
    in
    ap (λ l. set l i y) split ∙ set_at (map f (take i xs)) (get_or xs i x) (drop (i + 1) xs) y i long
    ∙ ap (λ z. map f (take i xs) ++ z ∷ drop (i + 1) xs) (new ∙ ap f same)
    ∙ sym (append_assoc (map f (take i xs)) (f (get_or xs i x) ∷ []) (drop (i + 1) xs))
    ∙ ap (λ l. l ++ drop (i + 1) xs) (sym (map_more f xs i x within))

pub pushed_range : {X : Type 0} (f : ℕ → X) (xs ys : List X) (n : ℕ) (x : X) → xs ≡ map f (range_with_len 0 n) → ys ≡ xs ++ x ∷ [] → x ≡ f n
    → ys ≡ map f (range_with_len 0 (n + 1))
pushed_range f xs ys n x was pushed new =
    pushed ∙ ap (λ l. l ++ x ∷ []) was ∙ ap (λ y. map f (range_with_len 0 n) ++ y ∷ []) new ∙ sym (map-range_with_len_more f 0 n n (omega arith))
