-- A weak read: the set that it leaves is closed, holds what it held, and holds the node that was read.
use Rattle.std.proofs.Common.{◌≡◌, ℕ, zero, suc, ◌+◌, ◌-◌, ◌<◌, ◌≤◌, ◌==◌, ◌&&◌, Bool, true, false, true≢false, List, [], ◌∷◌, ◌++◌, length, All, refl, sym, ap, ◌∙◌, subst, inl, inr, arith, eqb-true, eq-eqb}
use Rattle.std.specs.List.{list_any}
use Rattle.std.proofs.lemmas.Bool.{or_cases, or_left, or_right, and_parts, cases_lt}
use Rattle.std.proofs.lemmas.List.{get_or_past, length-map}
use Rattle.std.proofs.lemmas.List.Folds.{list_any-append}
use Rattle.std.proofs.lemmas.List.Elements.{All-nil, All-cons, All-head, All-tail, All-weaker, All-append}
use Rattle.gc_graph.specs.declared.kind.Kind.{Kind}
use Rattle.gc_graph.specs.declared.kind.Kind.TheVariants.{Strong, Weak, Pair, Plain}
use Rattle.gc_graph.specs.declared.kind.Value.{Value}
use Rattle.gc_graph.specs.declared.kind.Value.TheVariants.{Null, Ref, Word}
use Rattle.gc_graph.specs.declared.phase.Phase.{Phase}
use Rattle.gc_graph.specs.declared.phase.Phase.TheVariants.{Idle, Marking, Sweeping}
use Rattle.gc_graph.specs.Graph.{Object, has, IsIn, leads_to}
use Rattle.gc_graph.specs.Reach.{set_of, Reach, RefersWithin, AreNodes, IsLeastClosed}
use Rattle.gc_graph.specs.State.{Setup, State, Node, Life, node_at, is_live, IsLive, graph_of}
use Rattle.gc_graph.specs.State.Life.{Live, Dead, Gone}
use Rattle.gc_graph.specs.May.{members, members_from, may_with_read, weakly_read}
use Rattle.gc_graph.specs.Valid.{HaveKinds, IsTyped, NamesLive}
use Rattle.gc_graph.specs.NodeNumbers.{object_of_node, live_below}
use Rattle.gc_graph.proofs.Sets.{has-set_of, set_of-below}
use Rattle.gc_graph.specs.ReachLength.{reach_length}
use Rattle.gc_graph.proofs.Reaching.{reach_law}
use Rattle.gc_graph.proofs.Follows.{AnyStrong, AnyPair, Held, Carries, Follows, closed_from, follow_from}
use Rattle.gc_graph.proofs.Sound.{slot_weaker, word_weaker, region_weaker, MayHas, IsRoot, IsHeap, MayFollows, IsSound, found, kinds_at}

-- ---- typed nodes refer to nodes

any_below : (bound n m : ℕ) → m < bound → (m == n) ≡ true → n < bound
any_below bound n m l e = subst (λ k. k < bound) (eqb-true m n e) l

pub strong_below : (bound n : ℕ) (kinds : List Kind) (values : List Value) → HaveKinds bound kinds values → AnyStrong n kinds values ≡ true → n < bound
strong_below bound n [] values h e = absurd (true≢false (sym e))
strong_below bound n (Strong ∷ kinds) [] h e = absurd h
strong_below bound n (Weak ∷ kinds) [] h e = absurd h
strong_below bound n (Pair ∷ kinds) [] h e = absurd h
strong_below bound n (Plain ∷ kinds) [] h e = absurd h
strong_below bound n (Strong ∷ kinds) (Null ∷ xs) h e = strong_below bound n kinds xs h.1 e
strong_below bound n (Strong ∷ kinds) (Word w ∷ xs) h e = absurd h.0
strong_below bound n (Strong ∷ kinds) (Ref m ∷ xs) h e =
    elim (or_cases (m == n) (AnyStrong n kinds xs) e) [ inl here ↦ any_below bound n m h.0 here | inr rest ↦ strong_below bound n kinds xs h.1 rest ]
strong_below bound n (Weak ∷ kinds) (x ∷ xs) h e = strong_below bound n kinds xs h.1 e
strong_below bound n (Pair ∷ kinds) (x ∷ []) h e = absurd h
strong_below bound n (Pair ∷ kinds) (x ∷ y ∷ xs) h e = strong_below bound n kinds xs h.3 e
strong_below bound n (Plain ∷ kinds) (x ∷ xs) h e = strong_below bound n kinds xs h.1 e

pub pair_below : (bound n : ℕ) (set : List Bool) (kinds : List Kind) (values : List Value) → HaveKinds bound kinds values → AnyPair set n kinds values ≡ true → n < bound
pair_below bound n set [] values h e = absurd (true≢false (sym e))
pair_below bound n set (Strong ∷ kinds) [] h e = absurd h
pair_below bound n set (Weak ∷ kinds) [] h e = absurd h
pair_below bound n set (Pair ∷ kinds) [] h e = absurd h
pair_below bound n set (Plain ∷ kinds) [] h e = absurd h
pair_below bound n set (Strong ∷ kinds) (x ∷ xs) h e = pair_below bound n set kinds xs h.1 e
pair_below bound n set (Weak ∷ kinds) (x ∷ xs) h e = pair_below bound n set kinds xs h.1 e
pair_below bound n set (Plain ∷ kinds) (x ∷ xs) h e = pair_below bound n set kinds xs h.1 e
pair_below bound n set (Pair ∷ kinds) (x ∷ []) h e = absurd h
pair_below bound n set (Pair ∷ kinds) (Null ∷ y ∷ xs) h e = pair_below bound n set kinds xs h.3 e
pair_below bound n set (Pair ∷ kinds) (Word w ∷ y ∷ xs) h e = absurd h.0
pair_below bound n set (Pair ∷ kinds) (Ref k ∷ Null ∷ xs) h e = pair_below bound n set kinds xs h.3 e
pair_below bound n set (Pair ∷ kinds) (Ref k ∷ Word w ∷ xs) h e = absurd h.1
pair_below bound n set (Pair ∷ kinds) (Ref k ∷ Ref m ∷ xs) h e =
    elim (or_cases (has set k && (m == n)) (AnyPair set n kinds xs) e) [
      | inl here ↦ any_below bound n m h.1 (and_parts (has set k) (m == n) here).1
      | inr rest ↦ pair_below bound n set kinds xs h.3 rest
    ]

pub refers_within : (setup : Setup) (nodes : List Node) → All (IsTyped setup (length nodes)) nodes → RefersWithin (graph_of nodes)
refers_within setup nodes typed set m n e =
    let o : Object = (node_at nodes m).object in
    let leads : leads_to set o n ≡ true = subst (λ x. leads_to set x n ≡ true) (object_of_node nodes m) e in
    let kinds : HaveKinds (length nodes) o.kinds o.values = kinds_at setup nodes typed m in
    let long : length (graph_of nodes) ≡ length nodes = length-map nodes (λ (x : Node). x.object) in
    let below : n < length nodes =
    elim (or_cases (AnyStrong n o.kinds o.values) (AnyPair set n o.kinds o.values) leads) [
      | inl strong ↦ strong_below (length nodes) n o.kinds o.values kinds strong
      | inr pair ↦ pair_below (length nodes) n set o.kinds o.values kinds pair
    ] in
    omega arith

-- ---- live nodes lead to live ones

live_held : (nodes : List Node) (set : List Bool) → ((n : ℕ) → IsLive nodes n → IsIn set n) → (value : Value) → NamesLive nodes value → Held set value
live_held nodes set all Null h = tt
live_held nodes set all (Ref n) h = all n h
live_held nodes set all (Word w) h = tt

live_carried : (nodes : List Node) (set : List Bool) → ((n : ℕ) → IsLive nodes n → IsIn set n) → (key value : Value) → NamesLive nodes value → Carries set key value
live_carried nodes set all Null value h = tt
live_carried nodes set all (Ref n) value h = λ i. live_held nodes set all value h
live_carried nodes set all (Word w) value h = tt

-- the words of a live node name nothing but members of a set that has all live nodes
live_follow : (nodes : List Node) (set : List Bool) (bound : ℕ) → ((n : ℕ) → IsLive nodes n → IsIn set n) → (kinds : List Kind) (values : List Value)
    → HaveKinds bound kinds values → All (NamesLive nodes) values → Follows set kinds values
live_follow nodes set bound all [] values h live = λ k d l. tt
live_follow nodes set bound all (Strong ∷ kinds) [] h live = absurd h
live_follow nodes set bound all (Weak ∷ kinds) [] h live = absurd h
live_follow nodes set bound all (Pair ∷ kinds) [] h live = absurd h
live_follow nodes set bound all (Plain ∷ kinds) [] h live = absurd h
live_follow nodes set bound all (Strong ∷ kinds) (x ∷ xs) h live = (
  live_held nodes set all x (All-head (NamesLive nodes) x xs live),
  live_follow nodes set bound all kinds xs h.1 (All-tail (NamesLive nodes) x xs live),
)
live_follow nodes set bound all (Weak ∷ kinds) (x ∷ xs) h live = (tt, live_follow nodes set bound all kinds xs h.1 (All-tail (NamesLive nodes) x xs live))
live_follow nodes set bound all (Plain ∷ kinds) (x ∷ xs) h live = (tt, live_follow nodes set bound all kinds xs h.1 (All-tail (NamesLive nodes) x xs live))
live_follow nodes set bound all (Pair ∷ kinds) (x ∷ []) h live = absurd h
live_follow nodes set bound all (Pair ∷ kinds) (x ∷ y ∷ xs) h live =
    let rest : All (NamesLive nodes) (y ∷ xs) = All-tail (NamesLive nodes) x (y ∷ xs) live in (
      live_carried nodes set all x y (All-head (NamesLive nodes) y xs rest),
      live_follow nodes set bound all kinds xs h.3 (All-tail (NamesLive nodes) y xs rest),
    )

abbrev live_set : List Node → List Bool
live_set nodes = set_of (λ n. is_live (node_at nodes n).life) (length nodes)

is_live_true : (life : Life) → life ≡ Live → is_live life ≡ true
is_live_true Live e = refl
is_live_true Dead e = cc
is_live_true Gone e = cc

pub true_is_live : (life : Life) → is_live life ≡ true → life ≡ Live
true_is_live Live e = refl
true_is_live Dead e = absurd (true≢false (sym e))
true_is_live Gone e = absurd (true≢false (sym e))

into_live : (nodes : List Node) (n : ℕ) → IsLive nodes n → IsIn (live_set nodes) n
into_live nodes n live =
    has-set_of (λ k. is_live (node_at nodes k).life) (length nodes) n (live_below nodes n live) ∙ is_live_true (node_at nodes n).life live

from_live : (nodes : List Node) (n : ℕ) → IsIn (live_set nodes) n → IsLive nodes n
from_live nodes n i =
    true_is_live (node_at nodes n).life
    (sym (has-set_of (λ k. is_live (node_at nodes k).life) (length nodes) n (set_of-below (λ k. is_live (node_at nodes k).life) (length nodes) n i)) ∙ i)

-- what live roots reach is live
pub reached_live : (setup : Setup) (nodes : List Node) (roots : List ℕ) → IsHeap setup nodes
    → IsLeastClosed (graph_of nodes) roots (Reach (graph_of nodes) roots) → All (IsLive nodes) roots
    → (n : ℕ) → IsIn (Reach (graph_of nodes) roots) n → IsLive nodes n
reached_live setup nodes roots heap law live n i =
    from_live nodes n
    (law.least (live_set nodes)
    (closed_from nodes (live_set nodes)
    (λ m at. live_follow nodes (live_set nodes) (length nodes) (into_live nodes) (node_at nodes m).object.kinds (node_at nodes m).object.values
    (kinds_at setup nodes heap.typed m) (heap.named m (from_live nodes m at))))
    (λ k e. into_live nodes k (found (IsLive nodes) roots live k e)) n i)

-- ---- the members of a set

members_above : (n : ℕ) (set : List Bool) → All (λ k. (n ≤ k) × (has set (k - n) ≡ true)) (members_from n set)
members_above n [] = All-nil (λ k. (n ≤ k) × (has [] (k - n) ≡ true))
members_above n (true ∷ set) =
    All-cons (λ k. (n ≤ k) × (has (true ∷ set) (k - n) ≡ true)) n _
    (omega arith, (let z : n - n ≡ 0 = omega arith in ap (has (true ∷ set)) z))
    (All-weaker (λ k. (suc n ≤ k) × (has set (k - suc n) ≡ true)) (λ k. (n ≤ k) × (has (true ∷ set) (k - n) ≡ true))
    (λ k h. (let l = h.0 in omega arith, (let l = h.0 in let z : k - n ≡ suc (k - suc n) = omega arith in ap (has (true ∷ set)) z ∙ h.1))) _ (members_above (suc n) set))
members_above n (false ∷ set) =
    All-weaker (λ k. (suc n ≤ k) × (has set (k - suc n) ≡ true)) (λ k. (n ≤ k) × (has (false ∷ set) (k - n) ≡ true))
    (λ k h. (let l = h.0 in omega arith, (let l = h.0 in let z : k - n ≡ suc (k - suc n) = omega arith in ap (has (false ∷ set)) z ∙ h.1))) _ (members_above (suc n) set)

pub members_in : (set : List Bool) → All (IsIn set) (members set)
members_in set =
    All-weaker (λ k. (0 ≤ k) × (has set (k - 0) ≡ true)) (IsIn set) (λ k h. let z : k ≡ k - 0 = omega arith in ap (has set) z ∙ h.1) _ (members_above 0 set)

found_from : (n : ℕ) (set : List Bool) (j k : ℕ) → n + j ≡ k → IsIn set j → list_any (λ r. r == k) (members_from n set) ≡ true
found_from n [] j k e h = absurd (true≢false (sym h))
found_from n (true ∷ set) zero k e h = or_left (n == k) _ (let same : n ≡ k = omega arith in eq-eqb n k same)
found_from n (true ∷ set) (suc j) k e h = or_right (n == k) _ (found_from (suc n) set j k (omega arith) h)
found_from n (false ∷ set) zero k e h = absurd (true≢false (sym h))
found_from n (false ∷ set) (suc j) k e h = found_from (suc n) set j k (omega arith) h

pub member_found : (set : List Bool) (k : ℕ) → IsIn set k → list_any (λ r. r == k) (members set) ≡ true
member_found set k h = found_from 0 set k k (omega arith) h

pub in_below : (set : List Bool) (k : ℕ) → IsIn set k → k < length set
in_below set k h = elim (cases_lt k (length set)) [ inl l ↦ l | inr p ↦ absurd (true≢false (sym h ∙ get_or_past set k false p)) ]

-- ---- the read

pub record IsReadSet (nodes : List Node) (phase : Phase) (may after : List Bool) (n : ℕ) : Type 0 where
  pub follows : MayFollows phase nodes after
  pub more : (k : ℕ) → MayHas phase may k → MayHas phase after k
  pub read : MayHas phase after n

pub read_set : (setup : Setup) (nodes : List Node) (phase : Phase) (may : List Bool) (n : ℕ) → IsHeap setup nodes
    → IsLive nodes n → MayFollows phase nodes may → IsReadSet nodes phase may (may_with_read phase (graph_of nodes) may n) n
read_set setup nodes Idle may n heap live h = record { follows = tt; more = λ k i. tt; read = tt }
read_set setup nodes Sweeping may n heap live h = record { follows = tt; more = λ k i. tt; read = tt }
read_set setup nodes Marking may n heap live h =
    let g : List Object = graph_of nodes in
    let roots : List ℕ = members may ++ n ∷ [] in
    let long : length g ≡ length nodes = length-map nodes (λ (x : Node). x.object) in
    let whole : length may ≡ length nodes = h.whole in
    let are : AreNodes g roots =
    found (λ k. k < length g) roots
    (All-append (λ k. k < length g) (members may) (n ∷ [])
    (All-weaker (IsIn may) (λ k. k < length g) (λ k i. let l = in_below may k i in omega arith) (members may) (members_in may))
    (All-cons (λ k. k < length g) n [] (let l = live_below nodes n live in omega arith) (All-nil (λ k. k < length g)))) in
    let law : IsLeastClosed g roots (Reach g roots) = reach_law g roots (refers_within setup nodes heap.typed) are in
    record {
      follows = record {
        follows = follow_from nodes (Reach g roots) (λ m. (length nodes, kinds_at setup nodes heap.typed m)) law.closed;
        live = reached_live setup nodes roots heap law
            (All-append (IsLive nodes) (members may) (n ∷ [])
            (All-weaker (IsIn may) (IsLive nodes) h.live (members may) (members_in may)) (All-cons (IsLive nodes) n [] live (All-nil (IsLive nodes))));
        whole = reach_length g roots ∙ long;
      };
      more = λ k i. law.roots_in k (list_any-append (λ r. r == k) (members may) (n ∷ []) ∙ or_left _ _ (member_found may k i));
      read = law.roots_in n (list_any-append (λ r. r == n) (members may) (n ∷ []) ∙ or_right (list_any (λ r. r == n) (members may)) _ (or_left (n == n) _ (eq-eqb n n refl)));
    }

-- the state is sound with a set that holds more
pub grown : (setup : Setup) (s : State) (after : List Bool) → IsSound setup s → ((k : ℕ) → MayHas s.phase s.may k → MayHas s.phase after k)
    → MayFollows s.phase s.nodes after → IsSound setup (record s { may = after })
grown setup s after g more follows =
    let wider : (k : ℕ) → IsRoot s.nodes s.phase s.may k → IsRoot s.nodes s.phase after k = (λ k r. record { live = r.live; in_may = more k r.in_may }) in
    record {
      heap = g.heap;
      slots = λ k d l. slot_weaker (IsRoot s.nodes s.phase s.may) (IsRoot s.nodes s.phase after) wider _ (g.slots k d l);
      weak = g.weak;
      stack = λ k d l. word_weaker (IsRoot s.nodes s.phase s.may) (IsRoot s.nodes s.phase after) wider _ (g.stack k d l);
      region = λ k d l.
          region_weaker (IsRoot s.nodes s.phase s.may) (IsLive s.nodes) (IsRoot s.nodes s.phase after) (IsLive s.nodes) wider (λ n h. h) _ (g.region k d l);
      registered = g.registered;
      settled = g.settled;
      may = follows;
    }

pub read_sound : (setup : Setup) (s : State) (n : ℕ) → IsSound setup s → IsLive s.nodes n
    → IsSound setup (weakly_read s n) × IsRoot s.nodes s.phase (weakly_read s n).may n
read_sound setup s n g live =
    let r : IsReadSet s.nodes s.phase s.may (may_with_read s.phase (graph_of s.nodes) s.may n) n =
    read_set setup s.nodes s.phase s.may n g.heap live g.may in
    (grown setup s (may_with_read s.phase (graph_of s.nodes) s.may n) g r.more r.follows, record { live = live; in_may = r.read })
