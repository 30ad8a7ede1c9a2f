-- Numbers that are read with their word.
use Rattle.std.proofs.Common.{◌≡◌, ℕ, ◌+◌, ◌-◌, ◌*◌, ◌<◌, ◌≤◌, ◌==◌, ◌&&◌, not, Bool, true, false, cond, List, [], ◌∷◌, ◌++◌, length, get_or, take, drop, Some, None, refl, sym, ap, ◌∙◌, inl, inr, arith}
use Rattle.std.specs.Prelude.{◌^◌, nat_le, nat_lt}
use Rattle.std.specs.List.{list_all}
use Rattle.std.proofs.lemmas.List.{take_more, length-drop, get_or-drop, get_or-take, length-take-le}
use Rattle.std.proofs.lemmas.List.Folds.{list_all_more}
use Rattle.std.proofs.lemmas.Bool.{and_parts, and_from, cases_Bool, cond-false, cond-true, eqb-true, leb-true, le-leb, ltb-true, lt-ltb, not-true, not_from_false, ne_eqb}
use Rattle.gc_graph.specs.Words.{is_digit, is_number, value_after}
use Rattle.line_words.specs.Cursor.{is_word_byte, IsDigits, IsPastSpaces, IsShortNumber, IsWordEnd}
use Rattle.line_words.proofs.WordPlaces.{space_words, space_lines, word_found}
use Rattle.gc_graph.specs.WordBytes.{digit_byte, digits_are_word, value_after-push}

-- one more digit
pub digit_more : (bytes : List ℕ) (start place value : ℕ) → IsDigits bytes start place value → value < 100000000 → place < length bytes
    → 48 ≤ get_or bytes place 0 → get_or bytes place 0 ≤ 57 → IsDigits bytes start (place + 1) (value * 10 + (get_or bytes place 0 - 48))
digit_more bytes start place value so low within above below =
    let left : List ℕ = drop start bytes in
    let count : ℕ = place - start in
    let b : ℕ = get_or bytes place 0 in
    let inside : count < length left = omega (arith, so.order, length-drop start bytes) in
    let here : get_or left count 0 ≡ b = get_or-drop start bytes count 0 ∙ ap (λ i. get_or bytes i 0) (omega (arith, so.order)) in
    let next : place + 1 - start ≡ count + 1 = omega (arith, so.order) in
    record {
      order = omega (arith, so.order);
      within = omega arith;
      digits = ap (λ n. list_all is_digit (take n left)) next
          ∙ list_all_more is_digit left count 0 inside
          ∙ and_from (list_all is_digit (take count left)) (is_digit (get_or left count 0)) so.digits
          (ap is_digit here ∙ and_from (nat_le 48 b) (nat_le b 57) (le-leb 48 b above) (le-leb b 57 below));
      value_is = ap (λ v. v * 10 + (b - 48)) so.value_is
          ∙ sym (value_after-push 0 (take count left) b)
          ∙ ap (λ c. value_after 0 (take count left ++ c ∷ [])) (sym here)
          ∙ ap (value_after 0) (sym (take_more left count 0 inside))
          ∙ ap (λ n. value_after 0 (take n left)) (sym next);
      low = omega (arith, low, below);
    }

pub digits_none : (bytes : List ℕ) (start : ℕ) → start ≤ length bytes → IsDigits bytes start start 0
digits_none bytes start within =
    let nothing : start - start ≡ 0 = omega arith in
    record {
      order = omega arith;
      within = within;
      digits = ap (λ n. list_all is_digit (take n (drop start bytes))) nothing;
      value_is = ap (λ n. value_after 0 (take n (drop start bytes))) (sym nothing);
      low = omega arith;
    }

-- the digits are a word where none of its bytes follows
pub digits_end : (bytes : List ℕ) (start place value : ℕ) (end : Bool) → IsDigits bytes start place value
    → end ≡ cond (place == length bytes) true (not (is_word_byte (get_or bytes place 0))) → end ≡ true → IsWordEnd bytes start place
digits_end bytes start place value end so is e = record {
  order = so.order;
  within = so.within;
  inner = digits_are_word (take (place - start) (drop start bytes)) so.digits;
  stop = λ low.
      not-true (is_word_byte (get_or bytes place 0))
      (sym (cond-false (place == length bytes) true (not (is_word_byte (get_or bytes place 0))) (ne_eqb place (length bytes) (λ t. omega (arith, t, low))))
      ∙ sym is ∙ e);
}

-- ---- a number after one space

next_digit : (bytes : List ℕ) (start place value next more : ℕ) → IsDigits bytes start place value → value < 100000000
    → place < length bytes → is_digit (get_or bytes place 0) ≡ true → next ≡ place + 1 → more ≡ value * 10 + (get_or bytes place 0 - 48)
    → IsDigits bytes start next more
next_digit bytes start place value next more so low within digit next_is more_is =
    let b : ℕ = get_or bytes place 0 in
    let parts = and_parts (nat_le 48 b) (nat_le b 57) digit in
    rw (next_is, more_is) (digit_more bytes start place value so low within (leb-true 48 b parts.0) (leb-true b 57 parts.1))

digit_low : (b : ℕ) → is_digit b ≡ true → b - 48 < 10
digit_low b digit = let parts = and_parts (nat_le 48 b) (nat_le b 57) digit in omega (arith, leb-true b 57 parts.1)

pub one_digit : (bytes : List ℕ) (from one : ℕ) → from + 4 < length bytes → is_digit (get_or bytes (from + 1) 0) ≡ true
    → one ≡ get_or bytes (from + 1) 0 - 48 → IsDigits bytes (from + 1) (from + 2) one
one_digit bytes from one within first one_is =
    next_digit bytes (from + 1) (from + 1) 0 (from + 2) one (digits_none bytes (from + 1) (omega arith)) (omega arith) (omega arith) first
    (omega arith) (omega (arith, one_is))

pub two_digits : (bytes : List ℕ) (from one two : ℕ) → from + 4 < length bytes → is_digit (get_or bytes (from + 1) 0) ≡ true
    → is_digit (get_or bytes (from + 2) 0) ≡ true → one ≡ get_or bytes (from + 1) 0 - 48
    → two ≡ one * 10 + (get_or bytes (from + 2) 0 - 48) → IsDigits bytes (from + 1) (from + 3) two
two_digits bytes from one two within first second one_is two_is =
    next_digit bytes (from + 1) (from + 2) one (from + 3) two (one_digit bytes from one within first one_is)
    (omega (arith, digit_low (get_or bytes (from + 1) 0) first)) (omega arith) second (omega arith) two_is

pub three_digits : (bytes : List ℕ) (from one two three : ℕ) → from + 4 < length bytes → is_digit (get_or bytes (from + 1) 0) ≡ true
    → is_digit (get_or bytes (from + 2) 0) ≡ true → is_digit (get_or bytes (from + 3) 0) ≡ true
    → one ≡ get_or bytes (from + 1) 0 - 48 → two ≡ one * 10 + (get_or bytes (from + 2) 0 - 48)
    → three ≡ two * 10 + (get_or bytes (from + 3) 0 - 48) → IsDigits bytes (from + 1) (from + 4) three
three_digits bytes from one two three within first second third one_is two_is three_is =
    next_digit bytes (from + 1) (from + 3) two (from + 4) three (two_digits bytes from one two within first second one_is two_is)
    (omega (arith, digit_low (get_or bytes (from + 1) 0) first, digit_low (get_or bytes (from + 2) 0) second)) (omega arith)
    third (omega arith) three_is

-- digits without a zero before others are a number
digits_number : (word : List ℕ) → 0 < length word → (1 < length word → get_or word 0 0 ≡ 48 → ⊥) → list_all is_digit word ≡ true
    → value_after 0 word < 1000000000 → is_number word ≡ true
digits_number word some plain digits low =
    let zero : Bool = get_or word 0 0 == 48 in
    let leading : (nat_lt 1 (length word) && zero) ≡ false = elim (cases_Bool (nat_lt 1 (length word) && zero)) [
      | inl e ↦ let parts = and_parts (nat_lt 1 (length word)) zero e in
          absurd (plain (ltb-true 1 (length word) parts.0) (eqb-true (get_or word 0 0) 48 parts.1))
      | inr e ↦ e
    ] in
    and_from _ _ (not_from_false (length word == 0) (ne_eqb (length word) 0 (λ e. omega (arith, e))))
    (and_from _ _ (not_from_false _ leading) (and_from _ _ digits (lt-ltb (value_after 0 word) (2 ^ 64) (omega arith))))

one_space : (bytes : List ℕ) (from : ℕ) → from < length bytes → get_or bytes from 0 ≡ 32 → is_digit (get_or bytes (from + 1) 0) ≡ true
    → IsPastSpaces bytes from (from + 1)
one_space bytes from within space digit = record {
  before = omega arith;
  within = omega arith;
  words = space_words bytes from within space;
  lines = space_lines bytes from within space;
  stop = λ low.
      let b : ℕ = get_or bytes (from + 1) 0 in
      not-true (b == 32) (and_parts (not (b == 32)) (not (b == 10)) (digit_byte b digit)).0;
}

-- digits after one space are a word that is a number, where none of its bytes follows
pub short_number : (bytes : List ℕ) (from end value : ℕ) → get_or bytes from 0 ≡ 32 → is_digit (get_or bytes (from + 1) 0) ≡ true
    → IsDigits bytes (from + 1) end value → from + 1 < end → end < length bytes
    → (from + 2 < end → get_or bytes (from + 1) 0 ≡ 48 → ⊥) → is_word_byte (get_or bytes end 0) ≡ false
    → IsShortNumber bytes from end value
short_number bytes from end value space digit so some within plain gap =
    let start : ℕ = from + 1 in
    let left : List ℕ = drop start bytes in
    let word : List ℕ = take (end - start) left in
    let count : length word ≡ end - start = length-take-le (end - start) left (omega (arith, length-drop start bytes)) in
    let first : get_or word 0 0 ≡ get_or bytes start 0 =
    get_or-take (end - start) left 0 0 (omega arith) ∙ get_or-drop start bytes 0 0 ∙ ap (λ i. get_or bytes i 0) (omega arith) in
    record {
      word = word_found bytes from start end (one_space bytes from (omega arith) space digit) (record {
        order = so.order;
        within = so.within;
        inner = digits_are_word word so.digits;
        stop = λ low. gap;
      });
      number = cond-true (is_number word) (Some (value_after 0 word)) None
          (digits_number word (omega (arith, count)) (λ more e. plain (omega (arith, count, more)) (sym first ∙ e)) so.digits
          (omega (arith, so.low, so.value_is)))
          ∙ ap Some (sym so.value_is);
    }
