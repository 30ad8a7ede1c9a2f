-- The values of digits.
use Rattle.std.proofs.Common.{◌≡◌, ℕ, ◌+◌, ◌-◌, ◌*◌, ◌<◌, ◌≤◌, ◌^◌, true, false, ◌&&◌, List, [], ◌∷◌, length, get_or, drop, Some, None, cond, ltb, ◌==◌, sym, ap, ◌∙◌, arith}
use Rattle.std.specs.List.{list_all}
use Rattle.std.proofs.lemmas.List.{drop_more, drop_all}
use Rattle.std.proofs.lemmas.Bool.{and_from, not_from_false, cond-true, lt-ltb}
use Rattle.gc_graph.specs.Words.{is_digit, is_number, value_after}

-- digits only make the value greater
pub value_after-ge : (n : ℕ) (bs : List ℕ) → n ≤ value_after n bs
value_after-ge n [] = omega arith
value_after-ge n (b ∷ bs) = omega (arith, value_after-ge (n * 10 + (b - 48)) bs)

pub value_at : (n : ℕ) (word : List ℕ) (i : ℕ) → i < length word → value_after n (drop i word) ≡ value_after (n * 10 + (get_or word i 0 - 48)) (drop (i + 1) word)
value_at n word i l = ap (value_after n) (drop_more word i 0 l)

pub digits_at : (word : List ℕ) (i : ℕ) → i < length word → list_all is_digit (drop i word) ≡ (is_digit (get_or word i 0) && list_all is_digit (drop (i + 1) word))
digits_at word i l = ap (list_all is_digit) (drop_more word i 0 l)

pub ruleset values = (value_after-ge, value_at, digits_at)

-- all digits were read
pub number_read : (word : List ℕ) (value i : ℕ) → (length word == 0) ≡ false → (ltb 1 (length word) && (get_or word 0 0 == 48)) ≡ false
    → value < 2 ^ 64 → length word ≤ i → value_after value (drop i word) ≡ value_after 0 word
    → list_all is_digit (drop i word) ≡ list_all is_digit word
    → Some value ≡ cond (is_number word) (Some (value_after 0 word)) None
number_read word value i some plain low end is digits =
    let nothing : drop i word ≡ [] = drop_all i word end in
    let value_is : value ≡ value_after 0 word = ap (value_after value) (sym nothing) ∙ is in
    let all : list_all is_digit word ≡ true = sym digits ∙ ap (list_all is_digit) nothing in
    let fits : ltb (value_after 0 word) (2 ^ 64) ≡ true = lt-ltb _ _ (omega arith) in
    let good : is_number word ≡ true =
    and_from _ _ (not_from_false _ some) (and_from _ _ (not_from_false _ plain) (and_from _ _ all fits)) in
    ap Some value_is ∙ sym (cond-true (is_number word) (Some (value_after 0 word)) None good)
