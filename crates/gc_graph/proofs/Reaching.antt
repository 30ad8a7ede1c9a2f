-- The roots reach the least closed set that holds them.
use Rattle.std.proofs.Common.{◌≡◌, ℕ, zero, suc, ◌<◌, ◌≤◌, Bool, true, false, ◌||◌, ◌&&◌, List, [], ◌∷◌, length, sym, ap, ◌∙◌, subst, inl, inr, arith, eqb}
use mathlib.Core.Logic.{◌⊎◌}
use Rattle.std.specs.List.{list_any}
use Rattle.std.proofs.lemmas.Bool.{true≢false, or_cases, or_left, or_right, and_parts, and_from, cases_lt}
use Rattle.std.proofs.lemmas.List.{get_or_past}
use Rattle.std.proofs.lemmas.List.FromFn.{length-map-range_with_len}
use Rattle.gc_graph.specs.Graph.{Object, object_at, has, IsIn, IsWithin, IsClosed, leads_to}
use Rattle.gc_graph.specs.Reach.{set_of, any_below, closing, closed_times, Reach, RefersWithin, ReachIsLeast}
use Rattle.gc_graph.specs.AnyBelow.{any_below-from, any_below-some}
use Rattle.gc_graph.specs.ReachLength.{length-closing, length-closed_times}
use Rattle.gc_graph.proofs.Sets.{count_of, count_of-length, same_or_fewer, has-set_of, set_of-below}

-- what a step of closing makes of a number
abbrev pulled : List Object → List Bool → ℕ → Bool
pulled g s k = has s k || any_below (λ i. has s i && leads_to s (object_at g i) k) (length g)

closing-keeps : (g : List Object) (s : List Bool) → length s ≡ length g → IsWithin s (closing g s)
closing-keeps g s e k h =
    let below : k < length g = elim (cases_lt k (length g)) [ inl l ↦ l | inr p ↦ absurd (true≢false (sym h ∙ get_or_past s k false (rw e p))) ] in
    has-set_of (pulled g s) (length g) k below ∙ or_left (has s k) _ h

-- after n rounds the set is closed, or has at least n members
rounds : (n : ℕ) (g : List Object) (s : List Bool) → length s ≡ length g
    → (closing g (closed_times n g s) ≡ closed_times n g s) ⊎ (n ≤ count_of (closed_times n g s))
rounds zero g s e = inr (omega arith)
rounds (suc n) g s e =
    elim (rounds n g s e) [
      | inl stable ↦ inl (ap (closing g) stable)
      | inr many ↦
          elim (same_or_fewer (closed_times n g s) (closing g (closed_times n g s)) (length-closed_times n g s e ∙ sym (length-closing g _)) (closing-keeps g _ (length-closed_times n g s e)))
          [ inl same ↦ inl (ap (closing g) (sym same)) | inr more ↦ inr (omega arith) ]
    ]

settled : (g : List Object) (s : List Bool) → length s ≡ length g → closing g (closed_times (length g) g s) ≡ closed_times (length g) g s
settled g s e =
    let t : List Bool = closed_times (length g) g s in
    let le : length t ≡ length g = length-closed_times (length g) g s e in
    elim (rounds (length g) g s e) [
      | inl stable ↦ stable
      | inr many ↦
          elim (same_or_fewer t (closing g t) (le ∙ sym (length-closing g t)) (closing-keeps g t le))
          [ inl same ↦ sym same | inr more ↦ absurd (omega (arith, count_of-length (closing g t), length-closing g t)) ]
    ]

closed_from_settled : (g : List Object) (s : List Bool) → RefersWithin g → closing g s ≡ s → IsClosed g s
closed_from_settled g s within e i k in_s leads =
    let at : k < length g = within s i k leads in
    let ib : i < length g = set_of-below (pulled g s) (length g) i (subst (λ t. IsIn t i) (sym e) in_s) in
    subst (λ t. IsIn t k) e
    (has-set_of (pulled g s) (length g) k at
    ∙ or_right (has s k) _ (any_below-from (λ j. has s j && leads_to s (object_at g j) k) (length g) i ib (and_from (has s i) (leads_to s (object_at g i) k) in_s leads)))

pairs_grow : (s t : List Bool) (ps : List (ℕ × ℕ)) (k : ℕ) → IsWithin s t
    → list_any (λ p. has s p.0 && eqb p.1 k) ps ≡ true → list_any (λ p. has t p.0 && eqb p.1 k) ps ≡ true
pairs_grow s t [] k w h = h
pairs_grow s t (p ∷ ps) k w h =
    elim (or_cases (has s p.0 && eqb p.1 k) (list_any (λ q. has s q.0 && eqb q.1 k) ps) h) [
      | inl here ↦ or_left _ _ (let both = and_parts (has s p.0) (eqb p.1 k) here in and_from _ _ (w p.0 both.0) both.1)
      | inr rest ↦ or_right _ _ (pairs_grow s t ps k w rest)
    ]

leads-grow : (s t : List Bool) (node : Object) (k : ℕ) → IsWithin s t → leads_to s node k ≡ true → leads_to t node k ≡ true
leads-grow s t node k w h =
    elim (or_cases _ _ h) [ inl strong ↦ or_left _ _ strong | inr pair ↦ or_right _ _ (pairs_grow s t _ k w pair) ]

closing-within : (g : List Object) (s t : List Bool) → IsClosed g t → IsWithin s t → IsWithin (closing g s) t
closing-within g s t closed w k h =
    let below : k < length g = set_of-below (pulled g s) (length g) k h in
    elim (or_cases (has s k) _ (sym (has-set_of (pulled g s) (length g) k below) ∙ h)) [
      | inl old ↦ w k old
      | inr new ↦
          (let found = any_below-some (λ i. has s i && leads_to s (object_at g i) k) (length g) new in
          let both = and_parts (has s found.0) (leads_to s (object_at g found.0) k) found.1 in
          closed found.0 k (w found.0 both.0) (leads-grow s t (object_at g found.0) k w both.1))
    ]

closed_times-within : (n : ℕ) (g : List Object) (s t : List Bool) → IsClosed g t → IsWithin s t → IsWithin (closed_times n g s) t
closed_times-within zero g s t c w = w
closed_times-within (suc n) g s t c w = closing-within g (closed_times n g s) t c (closed_times-within n g s t c w)

closed_times-keeps : (n : ℕ) (g : List Object) (s : List Bool) → length s ≡ length g → IsWithin s (closed_times n g s)
closed_times-keeps zero g s e k h = h
closed_times-keeps (suc n) g s e k h = closing-keeps g (closed_times n g s) (length-closed_times n g s e) k (closed_times-keeps n g s e k h)

pub reach_law : ReachIsLeast
unfolding Reach
reach_law g roots within roots_in =
    let start : List Bool = set_of (λ k. list_any (λ r. eqb r k) roots) (length g) in
    let le : length start ≡ length g = length-map-range_with_len (λ k. list_any (λ r. eqb r k) roots) 0 (length g) in
    record {
      closed = closed_from_settled g (closed_times (length g) g start) within (settled g start le);
      roots_in = λ k h. closed_times-keeps (length g) g start le k (has-set_of (λ k. list_any (λ r. eqb r k) roots) (length g) k (roots_in k h) ∙ h);
      least = λ t closed holds. closed_times-within (length g) g start t closed
          (λ k h. holds k (sym (has-set_of (λ k. list_any (λ r. eqb r k) roots) (length g) k (set_of-below _ (length g) k h)) ∙ h));
    }
