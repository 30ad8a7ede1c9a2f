-- What setting and clearing one bit of a word gives.
use Rattle.std.proofs.Common.{◌≡◌, ℕ, zero, suc, ◌+◌, ◌*◌, ◌-◌, ◌/◌, ◌%◌, ◌<◌, ◌^◌, bit_and, bit_or, ap, ◌∙◌, refl, arith}
use Rattle.std.proofs.lemmas.Nat.{and_block, or_block, and_mask, or_comm}

-- below 4, bit 1 is set or cleared
low_mark_set : (r : ℕ) → r < 4 → bit_or r 2 ≡ 2 + r % 2
low_mark_set zero h = refl
low_mark_set (suc zero) h = refl
low_mark_set (suc (suc zero)) h = refl
low_mark_set (suc (suc (suc zero))) h = refl
low_mark_set (suc (suc (suc (suc r)))) h = absurd (omega arith)

low_mark_cleared : (r : ℕ) → r < 4 → bit_and r 1 ≡ r % 2
low_mark_cleared zero h = refl
low_mark_cleared (suc zero) h = refl
low_mark_cleared (suc (suc zero)) h = refl
low_mark_cleared (suc (suc (suc zero))) h = refl
low_mark_cleared (suc (suc (suc (suc r)))) h = absurd (omega arith)

-- below 8, bit 2 is set or cleared
low_traced_set : (r : ℕ) → r < 8 → bit_or r 4 ≡ 4 + r % 4
low_traced_set zero h = refl
low_traced_set (suc zero) h = refl
low_traced_set (suc (suc zero)) h = refl
low_traced_set (suc (suc (suc zero))) h = refl
low_traced_set (suc (suc (suc (suc zero)))) h = refl
low_traced_set (suc (suc (suc (suc (suc zero))))) h = refl
low_traced_set (suc (suc (suc (suc (suc (suc zero)))))) h = refl
low_traced_set (suc (suc (suc (suc (suc (suc (suc zero))))))) h = refl
low_traced_set (suc (suc (suc (suc (suc (suc (suc (suc r)))))))) h = absurd (omega arith)

low_traced_cleared : (r : ℕ) → r < 8 → bit_and r 3 ≡ r % 4
low_traced_cleared zero h = refl
low_traced_cleared (suc zero) h = refl
low_traced_cleared (suc (suc zero)) h = refl
low_traced_cleared (suc (suc (suc zero))) h = refl
low_traced_cleared (suc (suc (suc (suc zero)))) h = refl
low_traced_cleared (suc (suc (suc (suc (suc zero))))) h = refl
low_traced_cleared (suc (suc (suc (suc (suc (suc zero)))))) h = refl
low_traced_cleared (suc (suc (suc (suc (suc (suc (suc zero))))))) h = refl
low_traced_cleared (suc (suc (suc (suc (suc (suc (suc (suc r)))))))) h = absurd (omega arith)

pub mark_set : (word : ℕ) → bit_or word 2 ≡ word / 4 * 4 + 2 + word % 2
mark_set word =
    let r : ℕ = word % 4 in
    let block : bit_or (word / 4 * 4 + r) (0 * 4 + 2) ≡ bit_or (word / 4) 0 * 4 + bit_or r 2 = or_block 2 (word / 4) 0 r 2 (omega arith) (omega arith) in
    let none : bit_or (word / 4) 0 ≡ word / 4 = or_comm (word / 4) 0 in
    ap (λ n. bit_or n 2) (omega arith) ∙ block ∙ ap (λ n. n * 4 + bit_or r 2) none ∙ ap (λ n. word / 4 * 4 + n) (low_mark_set r (omega arith)) ∙ omega arith

pub mark_cleared : (word : ℕ) → word < 2 ^ 64 → bit_and word 18446744073709551613 ≡ word / 4 * 4 + word % 2
mark_cleared word fits =
    let r : ℕ = word % 4 in
    let all : bit_and (word / 4) (2 ^ 62 - 1) ≡ word / 4 = and_mask (word / 4) 62 ∙ omega arith in
    let block : bit_and (word / 4 * 4 + r) ((2 ^ 62 - 1) * 4 + 1) ≡ bit_and (word / 4) (2 ^ 62 - 1) * 4 + bit_and r 1 =
    and_block 2 (word / 4) (2 ^ 62 - 1) r 1 (omega arith) (omega arith) in
    ap (λ n. bit_and n 18446744073709551613) (omega arith) ∙ block ∙ ap (λ n. n * 4 + bit_and r 1) all ∙ ap (λ n. word / 4 * 4 + n) (low_mark_cleared r (omega arith)) ∙ omega arith

pub traced_set : (word : ℕ) → bit_or word 4 ≡ word / 8 * 8 + 4 + word % 4
traced_set word =
    let r : ℕ = word % 8 in
    let block : bit_or (word / 8 * 8 + r) (0 * 8 + 4) ≡ bit_or (word / 8) 0 * 8 + bit_or r 4 = or_block 3 (word / 8) 0 r 4 (omega arith) (omega arith) in
    let none : bit_or (word / 8) 0 ≡ word / 8 = or_comm (word / 8) 0 in
    ap (λ n. bit_or n 4) (omega arith) ∙ block ∙ ap (λ n. n * 8 + bit_or r 4) none ∙ ap (λ n. word / 8 * 8 + n) (low_traced_set r (omega arith)) ∙ omega arith

pub traced_cleared : (word : ℕ) → word < 2 ^ 64 → bit_and word 18446744073709551611 ≡ word / 8 * 8 + word % 4
traced_cleared word fits =
    let r : ℕ = word % 8 in
    let all : bit_and (word / 8) (2 ^ 61 - 1) ≡ word / 8 = and_mask (word / 8) 61 ∙ omega arith in
    let block : bit_and (word / 8 * 8 + r) ((2 ^ 61 - 1) * 8 + 3) ≡ bit_and (word / 8) (2 ^ 61 - 1) * 8 + bit_and r 3 =
    and_block 3 (word / 8) (2 ^ 61 - 1) r 3 (omega arith) (omega arith) in
    ap (λ n. bit_and n 18446744073709551611) (omega arith) ∙ block ∙ ap (λ n. n * 8 + bit_and r 3) all ∙ ap (λ n. word / 8 * 8 + n) (low_traced_cleared r (omega arith)) ∙ omega arith
