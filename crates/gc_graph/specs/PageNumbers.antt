-- An address lies in one page, and the sizes of large objects.
use Rattle.std.proofs.Common.{◌≡◌, ℕ, ◌+◌, ◌*◌, ◌/◌, ◌<◌, ◌≤◌, nat_lt, nat_le, inl, inr, arith, if◌then◌else◌}
use Rattle.std.proofs.Math.Nat.{mul-le-mul_right, add-mul, one-mul}
use Rattle.std.proofs.lemmas.Bool.{cases_order, cond-true, cond_both, lt-ltb, ltb-true}
use Rattle.gc_graph.specs.Placement.{bucket_of}

-- ---- pages

-- the next page begins a page's words past the first word of this one
pub next_page : (words page : ℕ) → (page + 1) * words ≡ page * words + words
next_page words page = omega (arith, add-mul page 1 words, one-mul words)

-- a page ends no later than one with a higher number begins
pub page_before : (words page other : ℕ) → page < other → (page + 1) * words ≤ other * words
page_before words page other l = mul-le-mul_right words (omega arith)

-- an address lies in one page
pub same_page : (words page other a : ℕ) → page * words ≤ a → a < (page + 1) * words → other * words ≤ a → a < (other + 1) * words → page ≡ other
same_page words page other a first last first' last' =
    elim (cases_order page other) [
      | inl same ↦ same
      | inr apart ↦ elim apart [
        | inl before ↦ absurd (omega (arith, page_before words page other before))
        | inr after ↦ absurd (omega (arith, page_before words other page after))
      ]
    ]

-- ---- buckets

-- the bucket of a size of at most half a page isn't that of large objects
pub small_bucket : (words size : ℕ) → size ≤ words / 2 → bucket_of words size ≡ 4 → ⊥
small_bucket words size small =
    cond_both (nat_lt (words / 2) size) 4 (if nat_le 16 size then 3 else if nat_le 8 size then 2 else if nat_le 4 size then 1 else 0) (λ b. b ≡ 4 → ⊥)
    (λ e. (let over : words / 2 < size = ltb-true (words / 2) size e in absurd (omega arith)))
    (λ e.
    cond_both (nat_le 16 size) 3 (if nat_le 8 size then 2 else if nat_le 4 size then 1 else 0) (λ b. b ≡ 4 → ⊥) (λ t same. absurd (omega arith))
    (λ t.
    cond_both (nat_le 8 size) 2 (if nat_le 4 size then 1 else 0) (λ b. b ≡ 4 → ⊥) (λ t same. absurd (omega arith))
    (λ t. cond_both (nat_le 4 size) 1 0 (λ b. b ≡ 4 → ⊥) (λ t same. absurd (omega arith)) (λ t same. absurd (omega arith)))))

-- the bucket of a size over half a page is that of large objects
pub large_bucket : (words size : ℕ) → words / 2 < size → bucket_of words size ≡ 4
large_bucket words size large =
    cond-true (nat_lt (words / 2) size) 4 (if nat_le 16 size then 3 else if nat_le 8 size then 2 else if nat_le 4 size then 1 else 0)
    (lt-ltb (words / 2) size large)
