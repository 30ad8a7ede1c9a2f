-- What the code writes is what the steps make of a word.
use Rattle.std.proofs.Common.{◌≡◌, ℕ, zero, suc, ◌+◌, ◌-◌, ◌*◌, ◌/◌, ◌%◌, ◌^◌, ◌<◌, ◌&&◌, Bool, true, false, not, eqb, bit_and, bit_or, ap, refl, sym, ◌∙◌, inl, inr, arith}
use Rattle.std.proofs.lemmas.Bool.{cases_eq, eq-eqb, ne_eqb}
use Rattle.std.proofs.lemmas.Grind.{one_shifted}
use Rattle.std.proofs.lemmas.Nat.{and_block, or_block, and_mask, or_comm}
use Rattle.object_headers.specs.Layout.{header_word, word_with_mark, word_with_traced}
use Rattle.marker_core.specs.Layout.{has_mark}

-- the bit that the code shifts to its place
pub bit_at_place : (a : ℕ) → 1 * 2 ^ (a % 64) % 18446744073709551616 ≡ 2 ^ (a % 64)
bit_at_place a = (one_shifted (a % 64) 18446744073709551615 refl (omega arith)).0

-- ---- the bits of a header

low_mark : (r : ℕ) → r < 4 → bit_or r 2 ≡ 2 + r % 2
low_mark zero h = refl
low_mark (suc zero) h = refl
low_mark (suc (suc zero)) h = refl
low_mark (suc (suc (suc zero))) h = refl
low_mark (suc (suc (suc (suc r)))) h = absurd (omega arith)

-- setting the bit sets the mark
pub mark_is_bit : (w : ℕ) → word_with_mark true w ≡ bit_or w 2
mark_is_bit w =
    let r : ℕ = w % 4 in
    let block : bit_or (w / 4 * 4 + r) (0 * 4 + 2) ≡ bit_or (w / 4) 0 * 4 + bit_or r 2 = or_block 2 (w / 4) 0 r 2 (omega arith) (omega arith) in
    let none : bit_or (w / 4) 0 ≡ w / 4 = or_comm (w / 4) 0 in
    sym (ap (λ n. bit_or n 2) (omega arith) ∙ block ∙ ap (λ n. n * 4 + bit_or r 2) none ∙ ap (λ n. w / 4 * 4 + n) (low_mark r (omega arith)) ∙ omega arith)

-- clearing both bits clears mark and traced bit
pub bits_are_cleared : (w : ℕ) → w < 2 ^ 64 → word_with_traced false (word_with_mark false w) ≡ bit_and w 18446744073709551609
bits_are_cleared w fits =
    let r : ℕ = w % 8 in
    let all : bit_and (w / 8) (2 ^ 61 - 1) ≡ w / 8 = and_mask (w / 8) 61 ∙ omega arith in
    let low : bit_and r 1 ≡ r % 2 = and_mask r 1 in
    let block : bit_and (w / 8 * 8 + r) ((2 ^ 61 - 1) * 8 + 1) ≡ bit_and (w / 8) (2 ^ 61 - 1) * 8 + bit_and r 1 =
    and_block 3 (w / 8) (2 ^ 61 - 1) r 1 (omega arith) (omega arith) in
    sym (ap (λ n. bit_and n 18446744073709551609) (omega arith) ∙ block ∙ ap (λ n. n * 8 + bit_and r 1) all ∙ ap (λ n. w / 8 * 8 + n) low ∙ omega arith)

-- a word keeps its text under a mark just where it has one
pub mark_stands : (w : ℕ) → eqb w (word_with_mark true w) ≡ has_mark w
mark_stands w = elim (cases_eq (w / 2 % 2) 1) [
  | inl bit ↦ eq-eqb w (word_with_mark true w) (omega (arith, bit)) ∙ sym (eq-eqb (w / 2 % 2) 1 bit)
  | inr none ↦ ne_eqb w (word_with_mark true w) (λ e. none (omega (arith, e))) ∙ sym (ne_eqb (w / 2 % 2) 1 none)
]

-- the header with these bits is the one with the mark alone just where it has the mark and not the traced bit
pub grey_is_found : (mark traced : Bool) (ty size : ℕ)
    → eqb (header_word true mark traced ty size) (header_word true true false ty size) ≡ (mark && not traced)
grey_is_found true false ty size = eq-eqb (header_word true true false ty size) (header_word true true false ty size) refl
grey_is_found true true ty size = ne_eqb (header_word true true true ty size) (header_word true true false ty size) (λ e. omega (arith, e))
grey_is_found false false ty size = ne_eqb (header_word true false false ty size) (header_word true true false ty size) (λ e. omega (arith, e))
grey_is_found false true ty size = ne_eqb (header_word true false true ty size) (header_word true true false ty size) (λ e. omega (arith, e))
