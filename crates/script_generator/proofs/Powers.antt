-- One bit of a number is set just where the number is 2 to some power.
use Rattle.std.proofs.Common.{◌≡◌, ℕ, zero, suc, ◌+◌, ◌*◌, ◌/◌, ◌%◌, ◌^◌, ◌≤◌, ap, ◌∙◌, inl, inr, arith, eq-eqb, eqb-true, count_ones}
use Rattle.std.proofs.lemmas.Bool.{cases_lt}
use Rattle.std.proofs.lemmas.Nat.{ones_cat, ones-le, zero_from_ones}
use Rattle.script_generator.specs.GeneratedLaw.{PowersAreOfTwo}

halves : (n : ℕ) → count_ones n ≡ count_ones (n / 2) + count_ones (n % 2)
halves n =
    let whole : n ≡ (n / 2) * 2 ^ 1 + n % 2 = omega arith in
    ap count_ones whole ∙ ones_cat 1 (n / 2) (n % 2) (omega arith)

none_of_zero : count_ones 0 ≡ 0
none_of_zero = omega (arith, ones-le 0 0 (omega arith))

one_of_one : count_ones 1 ≡ 1
one_of_one = elim (cases_lt (count_ones 1) 1) [
  | inl none ↦ absurd (let zero_is : 1 ≡ 0 = zero_from_ones 1 (omega arith) in omega arith)
  | inr some ↦ omega (arith, ones-le 1 1 (omega arith))
]

power_has_one : (k : ℕ) → count_ones (2 ^ k) ≡ 1
power_has_one zero = one_of_one
power_has_one (suc k) =
    let double : 2 ^ suc k ≡ 2 ^ k * 2 ^ 1 + 0 = omega arith in
    let apart = ones_cat 1 (2 ^ k) 0 (omega arith) in
    let half = power_has_one k in
    ap count_ones double ∙ omega (arith, apart, half, none_of_zero)

power_from : (most n : ℕ) → n ≤ most → count_ones n ≡ 1 → (k : ℕ) × (n ≡ 2 ^ k)
power_from zero n low one =
    let none : count_ones n ≡ count_ones 0 = ap count_ones (omega arith) in
    absurd (omega (arith, none_of_zero))
power_from (suc most) n low one = elim (cases_lt (n % 2) 1) [
  | inl even ↦
      let rest : count_ones (n % 2) ≡ count_ones 0 = ap count_ones (omega arith) in
      let parts = halves n in
      let half = power_from most (n / 2) (omega arith) (omega (arith, none_of_zero)) in
      let is = half.1 in
      let double : 2 ^ suc half.0 ≡ 2 * 2 ^ half.0 = omega arith in
      (suc half.0, omega arith)
  | inr odd ↦
      let last : count_ones (n % 2) ≡ count_ones 1 = ap count_ones (omega arith) in
      let parts = halves n in
      let none = zero_from_ones (n / 2) (omega (arith, one_of_one)) in
      (0, omega arith)
]

pub powers_are_of_two : PowersAreOfTwo
powers_are_of_two i = (
  (λ e. power_from i i (omega arith) (eqb-true (count_ones i) 1 e)),
  (λ power. eq-eqb (count_ones i) 1 (ap count_ones power.1 ∙ power_has_one power.0)),
)
