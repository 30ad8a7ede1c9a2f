-- How many digits a number has, and numbers that are written into text.
use Rattle.std.proofs.Common.{◌≡◌, ℕ, ◌+◌, ◌/◌, ◌%◌, ◌^◌, ◌<◌, ◌≤◌, List, [], ◌∷◌, ◌++◌, length, take, drop, decimal, sym, ap, ◌∙◌, subst, arith, length-append}
use Rattle.std.proofs.lemmas.Fmt.{decimal_step, decimal_nonempty, length-decimal-le}
use Rattle.std.proofs.lemmas.List.{length-take, length-drop}
use Rattle.std.proofs.Math.Seq.{take-add, take-append_seam}

-- ---- at least so many digits

one_more : (n : ℕ) → 10 ≤ n → n < 2 ^ 32 → length (decimal n) ≡ length (decimal (n / 10)) + 1
one_more n low small = ap length (decimal_step n low (omega arith)) ∙ length-append (decimal (n / 10)) ((48 + n % 10) ∷ [])

at_least_two : (n : ℕ) → 10 ≤ n → n < 2 ^ 32 → 2 ≤ length (decimal n)
at_least_two n low small = omega (arith, one_more n low small, decimal_nonempty (n / 10) (omega arith))

at_least_three : (n : ℕ) → 100 ≤ n → n < 2 ^ 32 → 3 ≤ length (decimal n)
at_least_three n low small = omega (arith, one_more n (omega arith) small, at_least_two (n / 10) (omega arith) (omega arith))

at_least_four : (n : ℕ) → 1000 ≤ n → n < 2 ^ 32 → 4 ≤ length (decimal n)
at_least_four n low small = omega (arith, one_more n (omega arith) small, at_least_three (n / 10) (omega arith) (omega arith))

at_least_five : (n : ℕ) → 10000 ≤ n → n < 2 ^ 32 → 5 ≤ length (decimal n)
at_least_five n low small = omega (arith, one_more n (omega arith) small, at_least_four (n / 10) (omega arith) (omega arith))

at_least_six : (n : ℕ) → 100000 ≤ n → n < 2 ^ 32 → 6 ≤ length (decimal n)
at_least_six n low small = omega (arith, one_more n (omega arith) small, at_least_five (n / 10) (omega arith) (omega arith))

at_least_seven : (n : ℕ) → 1000000 ≤ n → n < 2 ^ 32 → 7 ≤ length (decimal n)
at_least_seven n low small = omega (arith, one_more n (omega arith) small, at_least_six (n / 10) (omega arith) (omega arith))

at_least_eight : (n : ℕ) → 10000000 ≤ n → n < 2 ^ 32 → 8 ≤ length (decimal n)
at_least_eight n low small = omega (arith, one_more n (omega arith) small, at_least_seven (n / 10) (omega arith) (omega arith))

at_least_nine : (n : ℕ) → 100000000 ≤ n → n < 2 ^ 32 → 9 ≤ length (decimal n)
at_least_nine n low small = omega (arith, one_more n (omega arith) small, at_least_eight (n / 10) (omega arith) (omega arith))

at_least_ten : (n : ℕ) → 1000000000 ≤ n → n < 2 ^ 32 → 10 ≤ length (decimal n)
at_least_ten n low small = omega (arith, one_more n (omega arith) small, at_least_nine (n / 10) (omega arith) (omega arith))

-- ---- just so many digits

pub one_digit : (n : ℕ) → n < 10 → 1 ≡ length (decimal n)
one_digit n high = omega (arith, decimal_nonempty n (omega arith), length-decimal-le 1 n (omega arith) (omega arith) (omega arith))

pub two_digits : (n : ℕ) → 10 ≤ n → n < 100 → n < 2 ^ 32 → 2 ≡ length (decimal n)
two_digits n low high small =
    omega (arith, at_least_two n low small, length-decimal-le 2 n (omega arith) (omega arith) (omega arith))

pub three_digits : (n : ℕ) → 100 ≤ n → n < 1000 → n < 2 ^ 32 → 3 ≡ length (decimal n)
three_digits n low high small =
    omega (arith, at_least_three n low small, length-decimal-le 3 n (omega arith) (omega arith) (omega arith))

pub four_digits : (n : ℕ) → 1000 ≤ n → n < 10000 → n < 2 ^ 32 → 4 ≡ length (decimal n)
four_digits n low high small =
    omega (arith, at_least_four n low small, length-decimal-le 4 n (omega arith) (omega arith) (omega arith))

pub five_digits : (n : ℕ) → 10000 ≤ n → n < 100000 → n < 2 ^ 32 → 5 ≡ length (decimal n)
five_digits n low high small =
    omega (arith, at_least_five n low small, length-decimal-le 5 n (omega arith) (omega arith) (omega arith))

pub six_digits : (n : ℕ) → 100000 ≤ n → n < 1000000 → n < 2 ^ 32 → 6 ≡ length (decimal n)
six_digits n low high small =
    omega (arith, at_least_six n low small, length-decimal-le 6 n (omega arith) (omega arith) (omega arith))

pub seven_digits : (n : ℕ) → 1000000 ≤ n → n < 10000000 → n < 2 ^ 32 → 7 ≡ length (decimal n)
seven_digits n low high small =
    omega (arith, at_least_seven n low small, length-decimal-le 7 n (omega arith) (omega arith) (omega arith))

pub eight_digits : (n : ℕ) → 10000000 ≤ n → n < 100000000 → n < 2 ^ 32 → 8 ≡ length (decimal n)
eight_digits n low high small =
    omega (arith, at_least_eight n low small, length-decimal-le 8 n (omega arith) (omega arith) (omega arith))

pub nine_digits : (n : ℕ) → 100000000 ≤ n → n < 1000000000 → n < 2 ^ 32 → 9 ≡ length (decimal n)
nine_digits n low high small =
    omega (arith, at_least_nine n low small, length-decimal-le 9 n (omega arith) (omega arith) (omega arith))

pub ten_digits : (n : ℕ) → 1000000000 ≤ n → n < 2 ^ 32 → 10 ≡ length (decimal n)
ten_digits n low small =
    omega (arith, at_least_ten n low small, length-decimal-le 10 n (omega arith) (omega arith) (omega arith))

-- ---- a number after text

pub digits_fit : (n : ℕ) → n < 2 ^ 32 → length (decimal n) ≤ 10
digits_fit n small = length-decimal-le 10 n (omega arith) (omega arith) (omega arith)

-- the number stands after the text, where it was written to end there
pub number_after : (old new : List ℕ) (end start count n : ℕ) → count ≡ length (decimal n) → start + length (decimal n) ≡ end + count
    → drop start new ≡ decimal n ++ drop (end + count) old → take start new ≡ take start old → take (end + count) new ≡ take end old ++ decimal n
number_after old new end start count n counted ends written before =
    let here : start ≡ end = omega (arith, ends, counted) in
    let digits : drop end new ≡ decimal n ++ drop (end + count) old = ap (λ i. drop i new) (sym here) ∙ written in
    take-add end count new
    ∙ ap (λ (front : List ℕ). front ++ take count (drop end new)) (subst (λ i. take i new ≡ take i old) here before)
    ∙ ap (λ (digits : List ℕ). take end old ++ digits)
    (ap (take count) digits ∙ ap (λ i. take i (decimal n ++ drop (end + count) old)) counted ∙ take-append_seam (decimal n) (drop (end + count) old))

-- and there are as many bytes as before
pub same_length : (old new : List ℕ) (end start count n : ℕ) → count ≡ length (decimal n) → start + length (decimal n) ≡ end + count
    → drop start new ≡ decimal n ++ drop (end + count) old → take start new ≡ take start old → end + count ≤ length old → length new ≡ length old
same_length old new end start count n counted ends written before within =
    omega (
      arith,
      ends,
      counted,
      within,
      length-drop start new,
      ap length written,
      length-append (decimal n) (drop (end + count) old),
      length-drop (end + count) old,
      ap length before,
      length-take start new,
      length-take start old,
    )

-- a vector whose elements were written as a slice of its length
pub refilled : (n : ℕ) (old new : List ℕ) → length new ≡ n → take n (new ++ drop (length new) old) ≡ new
refilled n old new all = ap (λ m. take m (new ++ drop (length new) old)) (sym all) ∙ take-append_seam new (drop (length new) old)
