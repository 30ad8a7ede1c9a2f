-- From start bit to start bit of a block.
use Rattle.std.proofs.Common.{◌≡◌, ℕ, ◌+◌, ◌*◌, ◌/◌, ◌%◌, ◌<◌, Bool, true, false, ◌&&◌, ◌||◌, refl, sym, ap, ◌∙◌, inl, inr, arith, eqb, ltb}
use Rattle.std.specs.Int.{bit_at}
use Rattle.std.proofs.lemmas.Bool.{cases_eq, cases_lt, cases_Bool, eq-eqb, ne_eqb, eqb-true, lt-ltb, le-ltb, ltb-true, true≢false}

-- the address lies in the block, and its bit is no longer left
abbrev pub is_passed : ℕ → ℕ → ℕ → Bool
is_passed block left a = eqb (a / 64) block && eqb (bit_at left (a % 64)) 0

pub passed_bit : (block left i : ℕ) → i < 64 → is_passed block left (64 * block + i) ≡ eqb (bit_at left i) 0
passed_bit block left i few =
    let here : (64 * block + i) / 64 ≡ block = omega arith in
    let bit : (64 * block + i) % 64 ≡ i = omega arith in
    ap (λ t. t && eqb (bit_at left ((64 * block + i) % 64)) 0) (eq-eqb ((64 * block + i) / 64) block here) ∙ ap (λ n. eqb (bit_at left n) 0) bit

pub none_left : (block left a : ℕ) → ((i : ℕ) → bit_at left i ≡ 0) → eqb (a / 64) block ≡ is_passed block left a
none_left block left a clear = elim (cases_Bool (eqb (a / 64) block)) [
  | inl here ↦ here ∙ sym (ap (λ t. t && eqb (bit_at left (a % 64)) 0) here ∙ eq-eqb (bit_at left (a % 64)) 0 (clear (a % 64)))
  | inr other ↦ other ∙ sym (ap (λ t. t && eqb (bit_at left (a % 64)) 0) other)
]

-- the next bit is taken out
pub one_passed : (block left rest start a : ℕ) → start < 64 → bit_at left start ≡ 1 → bit_at rest start ≡ 0
    → ((i : ℕ) → i < 64 → (i ≡ start → ⊥) → bit_at rest i ≡ bit_at left i) → is_passed block rest a ≡ (is_passed block left a || eqb a (64 * block + start))
one_passed block left rest start a few set clear others = elim (cases_Bool (eqb (a / 64) block)) [
  | inr other ↦
      (let away : a ≡ 64 * block + start → ⊥ = (λ e. true≢false (sym (eq-eqb (a / 64) block (omega (arith, e))) ∙ other)) in
      ap (λ t. t && eqb (bit_at rest (a % 64)) 0) other
      ∙ sym (ap (λ t. (t && eqb (bit_at left (a % 64)) 0) || eqb a (64 * block + start)) other ∙ ne_eqb a (64 * block + start) away))
  | inl here ↦
      (let block_is : a / 64 ≡ block = eqb-true (a / 64) block here in
      ap (λ t. t && eqb (bit_at rest (a % 64)) 0) here
      ∙ elim (cases_eq (a % 64) start) [
        | inl same ↦
            (let at : a ≡ 64 * block + start = omega arith in
            eq-eqb (bit_at rest (a % 64)) 0 (ap (bit_at rest) same ∙ clear)
            ∙ sym (ap (λ t. (t && eqb (bit_at left (a % 64)) 0) || eqb a (64 * block + start)) here
            ∙ ap (λ t. t || eqb a (64 * block + start)) (ne_eqb (bit_at left (a % 64)) 0 (λ zero. omega (arith, zero, set, ap (bit_at left) same)))
            ∙ eq-eqb a (64 * block + start) at))
        | inr elsewhere ↦
            (let away : a ≡ 64 * block + start → ⊥ = (λ e. elsewhere (omega (arith, e))) in
            ap (λ n. eqb n 0) (others (a % 64) (omega arith) elsewhere)
            ∙ sym (ap (λ t. (t && eqb (bit_at left (a % 64)) 0) || eqb a (64 * block + start)) here
            ∙ ap (λ t. eqb (bit_at left (a % 64)) 0 || t) (ne_eqb a (64 * block + start) away)
            ∙ or_false (eqb (bit_at left (a % 64)) 0)))
      ])
] where
  or_false : (t : Bool) → (t || false) ≡ t
  or_false true = refl
  or_false false = refl

-- what was passed is not the next start
pub not_next : (block left start a : ℕ) → start < 64 → bit_at left start ≡ 1 → is_passed block left a ≡ true → eqb a (64 * block + start) ≡ false
not_next block left start a few set passed =
    ne_eqb a (64 * block + start)
    (λ e. true≢false (sym passed ∙ ap (is_passed block left) e ∙ passed_bit block left start few ∙ ne_eqb (bit_at left start) 0 (λ zero. omega (arith, zero, set))))

-- ---- from block to block

pub below_next : (block a : ℕ) → ltb a (64 * (block + 1)) ≡ (ltb a (64 * block) || eqb (a / 64) block)
below_next block a = elim (cases_lt a (64 * block)) [
  | inl low ↦ lt-ltb a (64 * (block + 1)) (omega arith) ∙ sym (ap (λ t. t || eqb (a / 64) block) (lt-ltb a (64 * block) low))
  | inr high ↦ elim (cases_eq (a / 64) block) [
    | inl here ↦ lt-ltb a (64 * (block + 1)) (omega (arith, here))
        ∙ sym (ap (λ t. t || eqb (a / 64) block) (le-ltb a (64 * block) high) ∙ eq-eqb (a / 64) block here)
    | inr other ↦ le-ltb a (64 * (block + 1)) (omega (arith, other))
        ∙ sym (ap (λ t. t || eqb (a / 64) block) (le-ltb a (64 * block) high) ∙ ne_eqb (a / 64) block other)
  ]
]

pub below_apart : (block a : ℕ) → ltb a (64 * block) ≡ true → eqb (a / 64) block ≡ false
below_apart block a low = ne_eqb (a / 64) block (λ e. omega (arith, e, ltb-true a (64 * block) low))

-- a bit that is still left
pub still_left : (block left a : ℕ) → (a / 64 ≡ block → bit_at left (a % 64) ≡ 1) → is_passed block left a ≡ false
still_left block left a set = elim (cases_eq (a / 64) block) [
  | inl here ↦
      (let one : bit_at left (a % 64) ≡ 1 = set here in
      ap (λ t. t && eqb (bit_at left (a % 64)) 0) (eq-eqb (a / 64) block here) ∙ ne_eqb (bit_at left (a % 64)) 0 (λ zero. omega (arith, zero, one)))
  | inr other ↦ ap (λ t. t && eqb (bit_at left (a % 64)) 0) (ne_eqb (a / 64) block other)
]
