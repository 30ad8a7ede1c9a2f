-- Sets as lists of flags: how many are in, and what a step that keeps what is in can do.
use Rattle.std.proofs.Common.{◌≡◌, ℕ, suc, ◌+◌, ◌<◌, ◌≤◌, Bool, true, false, List, [], ◌∷◌, length, refl, sym, ap, ◌∙◌, inl, inr, arith, cond}
use mathlib.Core.Logic.{◌⊎◌}
use Rattle.std.proofs.lemmas.Bool.{true≢false, cases_lt}
use Rattle.std.proofs.lemmas.List.{get_or_past}
use Rattle.std.proofs.lemmas.List.FromFn.{get_or-map-range_with_len, length-map-range_with_len}
use Rattle.gc_graph.specs.Graph.{has, IsIn, IsWithin}
use Rattle.gc_graph.specs.Reach.{set_of}

abbrev pub count_of : List Bool → ℕ
count_of [] = 0
count_of (b ∷ bs) = cond b (1 + count_of bs) (count_of bs)

pub count_of-length : (s : List Bool) → count_of s ≤ length s
count_of-length [] = omega arith
count_of-length (true ∷ bs) = omega (arith, count_of-length bs)
count_of-length (false ∷ bs) = omega (arith, count_of-length bs)

-- a set within another of the same length is that one, or has fewer
pub same_or_fewer : (s t : List Bool) → length s ≡ length t → IsWithin s t → (s ≡ t) ⊎ (count_of s < count_of t)
same_or_fewer [] [] e h = inl refl
same_or_fewer [] (b ∷ bs) e h = absurd (omega arith)
same_or_fewer (b ∷ bs) [] e h = absurd (omega arith)
same_or_fewer (true ∷ s) (false ∷ t) e h = absurd (true≢false (sym (h 0 refl)))
same_or_fewer (true ∷ s) (true ∷ t) e h =
    elim (same_or_fewer s t (omega arith) (λ k i. h (suc k) i)) [ inl q ↦ inl (ap (λ xs. true ∷ xs) q) | inr l ↦ inr (omega arith) ]
same_or_fewer (false ∷ s) (false ∷ t) e h =
    elim (same_or_fewer s t (omega arith) (λ k i. h (suc k) i)) [ inl q ↦ inl (ap (λ xs. false ∷ xs) q) | inr l ↦ inr (omega arith) ]
same_or_fewer (false ∷ s) (true ∷ t) e h =
    elim (same_or_fewer s t (omega arith) (λ k i. h (suc k) i)) [ inl q ↦ inr (omega (arith, ap count_of q)) | inr l ↦ inr (omega arith) ]

pub has-set_of : (p : ℕ → Bool) (n k : ℕ) → k < n → has (set_of p n) k ≡ p k
has-set_of p n k h = get_or-map-range_with_len p 0 n k k false h (omega arith)

pub set_of-below : (p : ℕ → Bool) (n k : ℕ) → IsIn (set_of p n) k → k < n
set_of-below p n k h =
    elim (cases_lt k n) [ inl l ↦ l | inr g ↦ absurd (true≢false (sym h ∙ get_or_past (set_of p n) k false (rw (length-map-range_with_len p 0 n) g))) ]
