-- What the start bits of 64 words tell of places.
use Rattle.std.proofs.Common.{◌≡◌, ℕ, ◌+◌, ◌-◌, ◌*◌, ◌/◌, ◌%◌, ◌^◌, ◌<◌, ◌≤◌, sym, ap, ◌∙◌, subst, inl, inr, arith}
use Rattle.std.specs.Int.{bit_at, trailing_zeros}
use mir.Syntax.{w64}
use Rattle.std.proofs.lemmas.Bool.{cases_lt}
use Rattle.std.proofs.lemmas.Nat.{shr-shr, shr_below}
use Rattle.std.proofs.lemmas.Nat.Bits.{bit_at-zero, bit_at_above, bit_at-trailing_zeros}
use Rattle.std.proofs.Math.Nat.{pow-le-pow_right}
use Rattle.marker_core.specs.Bodies.{IsPlace}
use Rattle.marker_core.specs.Layout.{bitmap_at}
use Rattle.page_words.specs.Seat.{SeatView, TellsWordAt}

-- the bit of the word at the address that is i words on, in the word shifted down to the address
shifted : (w at i : ℕ) → at % 64 + i < 64 → bit_at w ((at + i) % 64) ≡ bit_at (w / 2 ^ (at % 64)) i
shifted w at i inside =
    let same : (at + i) % 64 ≡ at % 64 + i = omega arith in
    ap (bit_at w) same ∙ ap (λ n. n % 2) (sym (shr-shr w (at % 64) i))

-- the word of start bits that an address has its bit in
abbrev pub IsBitsAt : SeatView → ℕ → ℕ → Type 0
IsBitsAt v at w = TellsWordAt v (v.count + at / 64) w

-- a place has its bit set
set_bit : (v : SeatView) (w at i : ℕ) → IsBitsAt v at w → at + i < v.count → at % 64 + i < 64 → IsPlace v.bodies (at + i)
    → bit_at (w / 2 ^ (at % 64)) i ≡ 1
set_bit v w at i word within inside place =
    let there : bitmap_at v.count (at + i) ≡ v.count + at / 64 = omega arith in
    sym (shifted w at i inside) ∙ (word.start (at + i) within there).1 place

clear_bit : (v : SeatView) (w at i : ℕ) → IsBitsAt v at w → at + i < v.count → at % 64 + i < 64 → bit_at (w / 2 ^ (at % 64)) i ≡ 0
    → IsPlace v.bodies (at + i) → ⊥
clear_bit v w at i word within inside clear place = omega (arith, set_bit v w at i word within inside place)

pub no_bits : (v : SeatView) (w at bits : ℕ) → IsBitsAt v at w → bits ≡ w / 2 ^ (at % 64) → bits ≡ 0 → (p : ℕ) → at ≤ p → p < at / 64 * 64 + 64
    → p < v.count → IsPlace v.bodies p → ⊥
no_bits v w at bits word is zero p low high within place =
    let step : at + (p - at) ≡ p = omega arith in
    clear_bit v w at (p - at) word (omega arith) (omega arith) (ap (λ n. bit_at n (p - at)) (sym is ∙ zero) ∙ bit_at-zero (p - at))
    (subst (IsPlace v.bodies) (sym step) place)

-- the lowest bit that is set is that of the next place
pub record IsNextPlace (v : SeatView) (at next : ℕ) : Type 0 where
  pub place : IsPlace v.bodies next
  pub none : (p : ℕ) → at ≤ p → p < next → IsPlace v.bodies p → ⊥
  pub low : at ≤ next
  pub high : next < v.count
  pub near : next < at / 64 * 64 + 64

pub lowest_bit : (v : SeatView) (w at bits zeros : ℕ) → IsBitsAt v at w → w < 2 ^ 64 → v.count ≡ 64 * (v.count / 64) → at < v.count
    → bits ≡ w / 2 ^ (at % 64) → (bits ≡ 0 → ⊥) → zeros ≡ trailing_zeros w64 bits → IsNextPlace v at (at + zeros)
lowest_bit v w at bits zeros word fits whole within is some zeros_is =
    let k : ℕ = at % 64 in
    let small : bits < 2 ^ (64 - k) =
    subst (λ n. n < 2 ^ (64 - k)) (sym is) (shr_below w (64 - k) k (let e : 64 - k + k ≡ 64 = omega arith in subst (λ n. w < 2 ^ n) (sym e) fits)) in
    let full : bits < 2 ^ 64 = omega (arith, pow-le-pow_right {n = 2} (omega arith) {i = 64 - k} {j = 64} (omega arith)) in
    let lowest = bit_at-trailing_zeros w64 bits (omega (arith, some)) full in
    let one : bit_at bits zeros ≡ 1 = ap (bit_at bits) zeros_is ∙ lowest.1 in
    let low : zeros < 64 - k = elim (cases_lt zeros (64 - k)) [
      | inl less ↦ less
      | inr more ↦ absurd (omega (arith, one, bit_at_above bits (64 - k) zeros small more))
    ] in
    let inside : at + zeros < v.count = omega arith in
    let there : bitmap_at v.count (at + zeros) ≡ v.count + at / 64 = omega arith in
    record {
      place = (word.start (at + zeros) inside there).0 (shifted w at zeros (omega arith) ∙ ap (λ n. bit_at n zeros) (sym is) ∙ one);
      none = λ p above below place.
          let step : at + (p - at) ≡ p = omega arith in
          clear_bit v w at (p - at) word (omega arith) (omega arith) (ap (λ n. bit_at n (p - at)) (sym is) ∙ lowest.2 (p - at) (omega arith))
          (subst (IsPlace v.bodies) (sym step) place);
      low = omega arith;
      high = inside;
      near = omega arith;
    }
