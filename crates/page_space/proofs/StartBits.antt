-- What the start bits up to that of an address tell of places.
use Rattle.std.proofs.Common.{◌≡◌, ℕ, suc, ◌+◌, ◌-◌, ◌*◌, ◌/◌, ◌%◌, ◌^◌, ◌<◌, ◌≤◌, bit_and, sym, ap, ◌∙◌, subst, inl, inr, arith}
use Rattle.std.specs.Int.{bit_at}
use Rattle.std.proofs.lemmas.Bool.{cases_lt}
use Rattle.std.proofs.lemmas.Nat.{shr_high, and_mask, mod_below, pow_pos}
use Rattle.std.proofs.lemmas.Nat.Bits.{bit_at-zero, bit_at_above, bit_at_and, bit_at_ones, bit_at-lt, ones_shr}
use Rattle.std.proofs.Math.Nat.{pow-succ'}
use Rattle.gap_bounds.specs.Bodies.{IsPlace}
use Rattle.gap_bounds.specs.Seat.{SeatView, TellsWordAt}
use Rattle.gap_bounds.specs.StartBits.{IsBitsAt}
use Rattle.page_space.specs.Space.{HasNoStart, IsLastStart}

-- the highest bit that is set
top_bit : (w top : ℕ) → 2 ^ top ≤ w → w < 2 * 2 ^ top → bit_at w top ≡ 1
top_bit w top low high =
    let split : 1 * 2 ^ top + (w - 1 * 2 ^ top) ≡ w = omega arith in
    let high_part : (1 * 2 ^ top + (w - 1 * 2 ^ top)) / 2 ^ top ≡ 1 = shr_high 1 top (w - 1 * 2 ^ top) (omega arith) in
    ap (λ n. bit_at n top) (sym split) ∙ ap (λ n. n % 2) high_part

-- the highest bit that is set is that of the last place of the 64 words
pub record IsLastPlace (v : SeatView) (word last : ℕ) : Type 0 where
  pub place : IsPlace v.bodies last
  pub none : HasNoStart v.bodies (last + 1) (64 * word + 64)
  pub low : 64 * word ≤ last
  pub high : last < 64 * word + 64

pub highest_bit : (v : SeatView) (w word top : ℕ) → TellsWordAt v (v.count + word) w → 64 * word + 64 ≤ v.count → 2 ^ top ≤ w → w < 2 * 2 ^ top → top < 64
    → IsLastPlace v word (64 * word + top)
highest_bit v w word top at inside low high few =
    let one : bit_at w top ≡ 1 = top_bit w top low high in
    record {
      place = (at.start (64 * word + top) (omega arith) (omega arith)).0 (ap (bit_at w) (let e : (64 * word + top) % 64 ≡ top = omega arith in e) ∙ one);
      none = λ p above below place.
          let i : ℕ = p - 64 * word in
          let zero : bit_at w (p % 64) ≡ 0 = bit_at_above w (suc top) (p % 64) (subst (λ n. w < n) (sym (pow-succ' 2 top)) high) (omega arith) in
          omega (arith, zero, (at.start p (omega arith) (omega arith)).1 place);
      low = omega arith;
      high = omega arith;
    }

-- ---- the bits up to that of an address

-- the word without the bits above k
abbrev pub bits_to : ℕ → ℕ → ℕ
bits_to w k = bit_and w ((2 ^ 64 - 1) / 2 ^ (63 - k))

mask_is : (k : ℕ) → k < 64 → (2 ^ 64 - 1) / 2 ^ (63 - k) ≡ 2 ^ (k + 1) - 1
mask_is k few = ones_shr 64 (63 - k) (omega arith) ∙ ap (λ n. 2 ^ n - 1) (let e : 64 - (63 - k) ≡ k + 1 = omega arith in e)

bits_to-fits : (w k : ℕ) → k < 64 → bits_to w k < 2 ^ (k + 1)
bits_to-fits w k few =
    let is : bits_to w k ≡ w % 2 ^ (k + 1) = ap (bit_and w) (mask_is k few) ∙ and_mask w (k + 1) in
    omega (arith, mod_below w (2 ^ (k + 1)) (pow_pos (k + 1)))

bits_to-same : (w k i : ℕ) → k < 64 → i ≤ k → bit_at (bits_to w k) i ≡ bit_at w i
bits_to-same w k i few low =
    let both = bit_at_and w (2 ^ (k + 1) - 1) i in
    let set : bit_at (2 ^ (k + 1) - 1) i ≡ 1 = bit_at_ones (k + 1) i (omega arith) in
    ap (λ m. bit_at (bit_and w m) i) (mask_is k few) ∙ omega (arith, both, set, bit_at-lt w i)

-- no place has a bit that is clear
clear_at : (v : SeatView) (w at p bits : ℕ) → IsBitsAt v at w → at < v.count → bits ≡ bits_to w (at % 64) → 64 * (at / 64) ≤ p → p ≤ at
    → bit_at bits (p % 64) ≡ 0 → IsPlace v.bodies p → ⊥
clear_at v w at p bits word within is low high clear place =
    let same : bit_at bits (p % 64) ≡ bit_at w (p % 64) =
    ap (λ n. bit_at n (p % 64)) is ∙ bits_to-same w (at % 64) (p % 64) (omega arith) (omega arith) in
    omega (arith, clear, same, (word.start p (omega arith) (omega arith)).1 place)

pub no_bits_to : (v : SeatView) (w at bits : ℕ) → IsBitsAt v at w → at < v.count → bits ≡ bits_to w (at % 64) → bits ≡ 0
    → HasNoStart v.bodies (64 * (at / 64)) (at + 1)
no_bits_to v w at bits word within is zero p low high place =
    clear_at v w at p bits word within is low (omega arith) (ap (λ n. bit_at n (p % 64)) zero ∙ bit_at-zero (p % 64)) place

-- the highest of them that is set is that of the last place up to the address
pub highest_bit_to : (v : SeatView) (w at bits top : ℕ) → IsBitsAt v at w → at < v.count → bits ≡ bits_to w (at % 64) → 2 ^ top ≤ bits
    → bits < 2 * 2 ^ top → IsLastStart v.bodies (64 * (at / 64)) (at + 1) (64 * (at / 64) + top)
highest_bit_to v w at bits top word within is low high =
    let one : bit_at bits top ≡ 1 = top_bit bits top low high in
    let few : bits < 2 ^ (at % 64 + 1) = omega (arith, is, bits_to-fits w (at % 64) (omega arith)) in
    let inside : top ≤ at % 64 = elim (cases_lt (at % 64) top) [
      | inl above ↦ absurd (omega (arith, one, bit_at_above bits (at % 64 + 1) top few (omega arith)))
      | inr less ↦ less
    ] in
    let same : (64 * (at / 64) + top) % 64 ≡ top = omega arith in
    let set : bit_at w top ≡ 1 = sym (ap (λ n. bit_at n top) is ∙ bits_to-same w (at % 64) top (omega arith) inside) ∙ one in (
      (word.start (64 * (at / 64) + top) (omega arith) (omega arith)).0 (ap (bit_at w) same ∙ set),
      omega arith,
      omega arith,
      (λ p above below place. clear_at v w at p bits word within is (omega arith) (omega arith)
          (bit_at_above bits (suc top) (p % 64) (subst (λ n. bits < n) (sym (pow-succ' 2 top)) high) (omega arith)) place),
    )
