-- Decimal numbers are read back, and stand between spaces as words do.
use Rattle.std.proofs.Common.{◌≡◌, ℕ, ◌+◌, ◌%◌, ◌^◌, ◌<◌, ◌==◌, ◌&&◌, not, true, false, List, [], ◌∷◌, ◌++◌, length, get_or, Some, None, refl, sym, ap, ◌∙◌, subst, inl, inr, arith, leb, ltb}
use Rattle.std.specs.Fmt.{decimal}
use Rattle.std.specs.List.{list_all}
use Rattle.std.proofs.lemmas.Bool.{and_parts, and_from, and_right, not_from_false, le-leb, lt-ltb, ne_eqb, cases_eq, cond-true}
use Rattle.std.proofs.lemmas.Fmt.{decimal_by_steps, decimal_digit, decimal_nonempty, first_decimal}
use Rattle.gc_graph.specs.Words.{is_digit, value_after, is_number, number_below}
use Rattle.gc_graph.specs.WordBytes.{is_word_byte, digits_are_word, value_after-push}

digits-push : (bytes : List ℕ) (b : ℕ) → list_all is_digit bytes ≡ true → is_digit b ≡ true → list_all is_digit (bytes ++ b ∷ []) ≡ true
digits-push [] b h d = and_from (is_digit b) true d refl
digits-push (c ∷ bytes) b h d =
    let both = and_parts (is_digit c) (list_all is_digit bytes) h in
    and_from (is_digit c) (list_all is_digit (bytes ++ b ∷ [])) both.0 (digits-push bytes b both.1 d)

digit_is : (d : ℕ) → d < 10 → is_digit (48 + d) ≡ true
digit_is d l = and_from (leb 48 (48 + d)) (leb (48 + d) 57) (le-leb 48 (48 + d) (omega arith)) (le-leb (48 + d) 57 (omega arith))

pub record IsReadAs (n : ℕ) (bytes : List ℕ) : Type 0 where
  pub value : value_after 0 bytes ≡ n
  pub digits : list_all is_digit bytes ≡ true

pub decimal_reads : (n : ℕ) → n < 2 ^ 64 → IsReadAs n (decimal n)
decimal_reads n small =
    decimal_by_steps IsReadAs
    (λ d l. record { value = omega arith; digits = and_from (is_digit (48 + d)) true (digit_is d l) refl })
    (λ k ds ten h. record {
      value = (let v = h.value in omega (arith, value_after-push 0 ds (48 + k % 10)));
      digits = digits-push ds (48 + k % 10) h.digits (digit_is (k % 10) (omega arith));
    })
    n small

no_leading_zero : (n : ℕ) → n < 2 ^ 64 → not (ltb 1 (length (decimal n)) && (get_or (decimal n) 0 0 == 48)) ≡ true
no_leading_zero n small =
    elim (cases_eq n 0) [
      | inl zero_is ↦
          not_from_false (ltb 1 (length (decimal n)) && (get_or (decimal n) 0 0 == 48))
          (subst (λ k. (ltb 1 (length (decimal k)) && (get_or (decimal k) 0 0 == 48)) ≡ false) (sym zero_is)
          (subst (λ bytes. (ltb 1 (length bytes) && (get_or bytes 0 0 == 48)) ≡ false) (sym (decimal_digit 0 (omega arith))) refl))
      | inr more ↦
          (let first : 48 < get_or (decimal n) 0 0 = first_decimal n (omega arith) small in
          not_from_false (ltb 1 (length (decimal n)) && (get_or (decimal n) 0 0 == 48))
          (and_right (ltb 1 (length (decimal n))) (get_or (decimal n) 0 0 == 48) (ne_eqb (get_or (decimal n) 0 0) 48 (λ e. omega arith))))
    ]

pub decimal_is_number : (n : ℕ) → n < 2 ^ 64 → is_number (decimal n) ≡ true
decimal_is_number n small =
    let reads = decimal_reads n small in
    let some : 0 < length (decimal n) = decimal_nonempty n small in
    let fits : value_after 0 (decimal n) < 2 ^ 64 = (let v = reads.value in omega arith) in
    and_from (not (length (decimal n) == 0)) _ (not_from_false (length (decimal n) == 0) (ne_eqb (length (decimal n)) 0 (λ e. omega arith)))
    (and_from (not (ltb 1 (length (decimal n)) && (get_or (decimal n) 0 0 == 48))) _ (no_leading_zero n small)
    (and_from (list_all is_digit (decimal n)) (ltb (value_after 0 (decimal n)) (2 ^ 64)) reads.digits (lt-ltb (value_after 0 (decimal n)) (2 ^ 64) fits)))

pub decimal_is_read : (n : ℕ) → n < 2 ^ 64 → number_below (2 ^ 64) (decimal n) ≡ Some n
decimal_is_read n small =
    let reads = decimal_reads n small in
    let fits : value_after 0 (decimal n) < 2 ^ 64 = (let v = reads.value in omega arith) in
    cond-true (is_number (decimal n) && ltb (value_after 0 (decimal n)) (2 ^ 64)) (Some (value_after 0 (decimal n))) None
    (and_from (is_number (decimal n)) (ltb (value_after 0 (decimal n)) (2 ^ 64)) (decimal_is_number n small) (lt-ltb (value_after 0 (decimal n)) (2 ^ 64) fits))
    ∙ ap Some reads.value

-- ---- a byte of a word is no space and ends no line

pub decimal_is_word : (n : ℕ) → n < 2 ^ 64 → list_all is_word_byte (decimal n) ≡ true
decimal_is_word n small = digits_are_word (decimal n) (decimal_reads n small).digits
