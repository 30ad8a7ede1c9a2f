-- How many words a heap can have.
use Rattle.std.proofs.Common.{◌≡◌, ℕ, ◌*◌, ◌/◌, ◌≤◌, true, false, [], ◌∷◌, sym, inl, inr, arith, eqb}
use Rattle.std.specs.List.{list_any}
use Rattle.std.proofs.lemmas.Bool.{true≢false, or_cases, eqb-true}
use Rattle.gc_graph.specs.State.{Shape}
use Rattle.gc_graph.specs.Shapes.{IsShape}

page_words_le : (n : ℕ) → list_any (λ m. eqb m n) (256 ∷ 512 ∷ 1024 ∷ 2048 ∷ 4096 ∷ 8192 ∷ 16384 ∷ []) ≡ true → (256 ≤ n) × (n ≤ 16384) × (64 * (n / 64) ≡ n) × (256 * (n / 256) ≡ n)
page_words_le n h =
    elim (or_cases (eqb 256 n) _ h) [
      | inl e ↦ (omega (arith, eqb-true 256 n e), omega (arith, eqb-true 256 n e), omega (arith, eqb-true 256 n e), omega (arith, eqb-true 256 n e))
      | inr h1 ↦ elim (or_cases (eqb 512 n) _ h1) [
        | inl e ↦ (omega (arith, eqb-true 512 n e), omega (arith, eqb-true 512 n e), omega (arith, eqb-true 512 n e), omega (arith, eqb-true 512 n e))
        | inr h2 ↦ elim (or_cases (eqb 1024 n) _ h2) [
          | inl e ↦ (omega (arith, eqb-true 1024 n e), omega (arith, eqb-true 1024 n e), omega (arith, eqb-true 1024 n e), omega (arith, eqb-true 1024 n e))
          | inr h3 ↦ elim (or_cases (eqb 2048 n) _ h3) [
            | inl e ↦ (omega (arith, eqb-true 2048 n e), omega (arith, eqb-true 2048 n e), omega (arith, eqb-true 2048 n e), omega (arith, eqb-true 2048 n e))
            | inr h4 ↦ elim (or_cases (eqb 4096 n) _ h4) [
              | inl e ↦ (omega (arith, eqb-true 4096 n e), omega (arith, eqb-true 4096 n e), omega (arith, eqb-true 4096 n e), omega (arith, eqb-true 4096 n e))
              | inr h5 ↦ elim (or_cases (eqb 8192 n) _ h5) [
                | inl e ↦ (omega (arith, eqb-true 8192 n e), omega (arith, eqb-true 8192 n e), omega (arith, eqb-true 8192 n e), omega (arith, eqb-true 8192 n e))
                | inr h6 ↦ elim (or_cases (eqb 16384 n) false h6) [
                  | inl e ↦ (omega (arith, eqb-true 16384 n e), omega (arith, eqb-true 16384 n e), omega (arith, eqb-true 16384 n e), omega (arith, eqb-true 16384 n e))
                  | inr never ↦ absurd (true≢false (sym never))
                ]
              ]
            ]
          ]
        ]
      ]
    ]

pub shape_words : (s : Shape) → IsShape s → (256 ≤ s.page_words) × (s.page_words ≤ 16384) × (64 * (s.page_words / 64) ≡ s.page_words)
    × (256 * (s.page_words / 256) ≡ s.page_words)
shape_words s valid = page_words_le s.page_words valid.power
