-- The bytes of a line's words, the words that are kept because they have bytes, and the value of digits.
use Rattle.std.proofs.Common.{◌≡◌, ℕ, ◌+◌, ◌-◌, ◌*◌, ◌<◌, ◌≤◌, ◌==◌, ◌&&◌, not, Bool, true, List, [], ◌∷◌, ◌++◌, length, refl, arith, leb}
use Rattle.std.specs.List.{filter, list_all}
use Rattle.std.proofs.lemmas.Bool.{and_parts, and_from, not_from_false, ne_eqb, leb-true, cond-true}
use Rattle.gc_graph.specs.Words.{is_digit, value_after}

-- a byte that is no space and ends no line
abbrev pub is_word_byte : ℕ → Bool
is_word_byte b = not (b == 32) && not (b == 10)

-- a digit is a byte of a word
pub digit_byte : (b : ℕ) → is_digit b ≡ true → is_word_byte b ≡ true
digit_byte b h =
    let both = and_parts (leb 48 b) (leb b 57) h in
    let low : 48 ≤ b = leb-true 48 b both.0 in
    and_from (not (b == 32)) (not (b == 10)) (not_from_false (b == 32) (ne_eqb b 32 (λ e. omega arith)))
    (not_from_false (b == 10) (ne_eqb b 10 (λ e. omega arith)))

-- bytes that are all digits are all bytes of a word
pub digits_are_word : (bytes : List ℕ) → list_all is_digit bytes ≡ true → list_all is_word_byte bytes ≡ true
digits_are_word [] h = refl
digits_are_word (b ∷ bytes) h =
    let both = and_parts (is_digit b) (list_all is_digit bytes) h in
    and_from (is_word_byte b) (list_all is_word_byte bytes) (digit_byte b both.0) (digits_are_word bytes both.1)

-- one digit more at the end makes the value ten times as large, and adds its own
pub value_after-push : (n : ℕ) (bytes : List ℕ) (b : ℕ) → value_after n (bytes ++ b ∷ []) ≡ value_after n bytes * 10 + (b - 48)
value_after-push n [] b = refl
value_after-push n (c ∷ bytes) b = value_after-push (n * 10 + (c - 48)) bytes b

-- a word that has bytes is kept
pub kept : (word : List ℕ) (words : List (List ℕ)) → 0 < length word → filter (λ w. not (length w == 0)) (word ∷ words) ≡ word ∷ filter (λ w. not (length w == 0)) words
kept word words some =
    cond-true (not (length word == 0)) (word ∷ filter (λ w. not (length w == 0)) words) (filter (λ w. not (length w == 0)) words)
    (not_from_false (length word == 0) (ne_eqb (length word) 0 (λ e. omega arith)))
