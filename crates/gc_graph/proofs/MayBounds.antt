-- The bounds of a pause: what must be kept may be kept.
use Rattle.std.proofs.Common.{◌≡◌, ℕ, zero, suc, ◌+◌, ◌<◌, ◌==◌, Bool, true, false, true≢false, List, ◌∷◌, ◌++◌, length, cond, sym, ap, ◌∙◌, inl, inr, arith, eqb-true}
use Rattle.std.specs.List.{list_any, filter, range_with_len}
use Rattle.std.proofs.lemmas.Bool.{or_cases, or_left, or_right}
use Rattle.std.proofs.lemmas.List.{length-map}
use Rattle.std.proofs.lemmas.List.Folds.{list_any-append}
use Rattle.gc_graph.specs.declared.command.Want.{Want}
use Rattle.gc_graph.specs.declared.command.Want.TheVariants.{Precise, Conservative}
use Rattle.gc_graph.specs.declared.phase.Phase.{Phase}
use Rattle.gc_graph.specs.declared.phase.Phase.TheVariants.{Idle, Marking, Sweeping}
use Rattle.gc_graph.specs.Graph.{Object, IsIn, IsWithin}
use Rattle.gc_graph.specs.Reach.{Reach, RefersWithin, AreNodes, IsLeastClosed}
use Rattle.gc_graph.specs.State.{Setup, State, Node, graph_of, roots_of}
use Rattle.gc_graph.specs.May.{members, is_hit, hits_for}
use Rattle.gc_graph.specs.Valid.{IsMay, HasMay, IsValid}
use Rattle.gc_graph.specs.MayLaw.{BoundsMeet}
use Rattle.gc_graph.proofs.Sets.{same_or_fewer}
use Rattle.gc_graph.specs.ReachLength.{reach_length}
use Rattle.gc_graph.proofs.Reaching.{reach_law}
use Rattle.gc_graph.proofs.Sound.{found}
use Rattle.gc_graph.proofs.WeakReads.{refers_within, members_in, member_found, in_below}

-- one of either list
pub either_list : (xs ys : List ℕ) (n : ℕ) (P : Type 0) → (list_any (λ r. r == n) xs ≡ true → P) → (list_any (λ r. r == n) ys ≡ true → P)
    → list_any (λ r. r == n) (xs ++ ys) ≡ true → P
either_list xs ys n P left right e =
    elim (or_cases (list_any (λ r. r == n) xs) (list_any (λ r. r == n) ys) (sym (list_any-append (λ r. r == n) xs ys) ∙ e)) [ inl l ↦ left l | inr r ↦ right r ]

pub of_first : (xs ys : List ℕ) (n : ℕ) → list_any (λ r. r == n) xs ≡ true → list_any (λ r. r == n) (xs ++ ys) ≡ true
of_first xs ys n e = list_any-append (λ r. r == n) xs ys ∙ or_left _ _ e

pub of_second : (xs ys : List ℕ) (n : ℕ) → list_any (λ r. r == n) ys ≡ true → list_any (λ r. r == n) (xs ++ ys) ≡ true
of_second xs ys n e = list_any-append (λ r. r == n) xs ys ∙ or_right _ _ e

-- an element that passed stands first, or among the rest
pub passed : (b : Bool) (first n : ℕ) (rest : List ℕ) (P : Type 0) → ((first ≡ n) → P) → (list_any (λ r. r == n) rest ≡ true → P)
    → list_any (λ r. r == n) (cond b (first ∷ rest) rest) ≡ true → P
passed true first n rest P here later e =
    elim (or_cases (first == n) (list_any (λ r. r == n) rest) e) [ inl h ↦ here (eqb-true first n h) | inr l ↦ later l ]
passed false first n rest P here later e = later e

ranged : (from count n : ℕ) (test : ℕ → Bool) → list_any (λ r. r == n) (filter test (range_with_len from count)) ≡ true → n < from + count
ranged from zero n test e = absurd (true≢false (sym e))
ranged from (suc count) n test e =
    passed (test from) from n (filter test (range_with_len (from + 1) count)) (n < from + suc count) (λ h. omega arith)
    (λ l. (let b = ranged (from + 1) count n test l in omega arith)) e

pub hits_below : (want : Want) (s : State) (n : ℕ) → list_any (λ r. r == n) (hits_for want s) ≡ true → n < length s.nodes
hits_below Precise s n e = absurd (true≢false (sym e))
hits_below Conservative s n e = (let l = ranged 0 (length s.nodes) n (is_hit s.nodes s.stack) e in omega arith)

pub may_of : (phase : Phase) (s : State) → phase ≡ Marking → HasMay phase s → IsMay s
may_of Idle s e h = cc
may_of Marking s e h = h
may_of Sweeping s e h = cc

same_sets : (s t : List Bool) → length s ≡ length t → IsWithin s t → IsWithin t s → s ≡ t
same_sets s t e into back =
    elim (same_or_fewer s t e into) [
      | inl same ↦ same
      | inr fewer ↦ elim (same_or_fewer t s (sym e) back) [ inl same ↦ sym same | inr more ↦ absurd (omega arith) ]
    ]

-- what a pause has to keep is the least closed set that holds the roots and the hits
pub least_law : (setup : Setup) (s : State) (want : Want) → IsValid setup s → s.phase ≡ Marking
    → IsLeastClosed (graph_of s.nodes) (roots_of s ++ hits_for want s) (Reach (graph_of s.nodes) (roots_of s ++ hits_for want s))
least_law setup s want valid on =
    let may : IsMay s = may_of s.phase s on valid.may_kept in
    let g : List Object = graph_of s.nodes in
    let long : length g ≡ length s.nodes = length-map s.nodes (λ (x : Node). x.object) in
    reach_law g (roots_of s ++ hits_for want s) (refers_within setup s.nodes valid.typed)
    (λ k. either_list (roots_of s) (hits_for want s) k (k < length g)
    (λ i. (let l = in_below s.may k (may.roots k i) in let w = may.whole in omega arith))
    (λ i. (let l = hits_below want s k i in omega arith)))

pub bounds_meet : (setup : Setup) (s : State) (want : Want) → IsValid setup s → s.phase ≡ Marking → BoundsMeet s want
bounds_meet setup s want valid on =
    let may : IsMay s = may_of s.phase s on valid.may_kept in
    let g : List Object = graph_of s.nodes in
    let hits : List ℕ = hits_for want s in
    let long : length g ≡ length s.nodes = length-map s.nodes (λ (x : Node). x.object) in
    let refers : RefersWithin g = refers_within setup s.nodes valid.typed in
    let in_may : (k : ℕ) → IsIn s.may k → k < length g = λ k i. (let l = in_below s.may k i in let w = may.whole in omega arith) in
    let hit : (k : ℕ) → list_any (λ r. r == k) hits ≡ true → k < length g = λ k i. (let l = hits_below want s k i in omega arith) in
    let above : AreNodes g (members s.may ++ hits) =
    λ k. either_list (members s.may) hits k (k < length g) (λ i. in_may k (found (IsIn s.may) (members s.may) (members_in s.may) k i)) (hit k) in
    let lower : IsLeastClosed g (roots_of s ++ hits) (Reach g (roots_of s ++ hits)) = least_law setup s want valid on in
    let upper : IsLeastClosed g (members s.may ++ hits) (Reach g (members s.may ++ hits)) = reach_law g (members s.may ++ hits) refers above in
    record {
      may = may;
      meet = lower.least (Reach g (members s.may ++ hits)) upper.closed
          (λ k. either_list (roots_of s) hits k (IsIn (Reach g (members s.may ++ hits)) k)
          (λ i. upper.roots_in k (of_first (members s.may) hits k (member_found s.may k (may.roots k i))))
          (λ i. upper.roots_in k (of_second (members s.may) hits k i)));
      exact = λ none.
          same_sets (Reach g (members s.may ++ hits)) s.may (reach_length g (members s.may ++ hits) ∙ long ∙ sym may.whole)
          (upper.least s.may may.closed
          (λ k. either_list (members s.may) hits k (IsIn s.may k) (λ i. found (IsIn s.may) (members s.may) (members_in s.may) k i)
          (λ i. absurd (true≢false (sym (sym (ap (list_any (λ r. r == k)) none) ∙ i))))))
          (λ k i. upper.roots_in k (of_first (members s.may) hits k (member_found s.may k i)));
    }
