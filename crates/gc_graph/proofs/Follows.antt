-- A closed set, told object by object: what each member's words lead to is in the set.
use Rattle.std.proofs.Common.{◌≡◌, ℕ, ◌==◌, ◌&&◌, Bool, true, true≢false, List, [], ◌∷◌, refl, sym, subst, inl, inr, eqb-true, eq-eqb}
use Rattle.std.specs.Prelude.{⊤}
use Rattle.std.specs.List.{list_any}
use Rattle.std.proofs.lemmas.Bool.{or_cases, or_left, or_right, and_parts, and_from}
use Rattle.gc_graph.specs.declared.kind.Kind.{Kind}
use Rattle.gc_graph.specs.declared.kind.Kind.TheVariants.{Strong, Weak, Pair, Plain}
use Rattle.gc_graph.specs.declared.kind.Value.{Value}
use Rattle.gc_graph.specs.declared.kind.Value.TheVariants.{Null, Ref, Word}
use Rattle.gc_graph.specs.Graph.{Object, has, IsIn, IsClosed, leads_to, strong_targets, pair_targets}
use Rattle.gc_graph.specs.State.{Node, node_at, graph_of}
use Rattle.gc_graph.specs.Valid.{HaveKinds}
use Rattle.gc_graph.specs.NodeNumbers.{object_of_node}
use Rattle.gc_graph.proofs.Shapes.{Each}

abbrev pub Anything : Value → Type 0
Anything value = ⊤

-- the value names nothing but members
abbrev pub Held : List Bool → Value → Type 0
Held set Null = ⊤
Held set (Ref n) = IsIn set n
Held set (Word w) = ⊤

-- if the key is a member, so is the value
abbrev pub Carries : List Bool → Value → Value → Type 0
Carries set Null value = ⊤
Carries set (Ref n) value = IsIn set n → Held set value
Carries set (Word w) value = ⊤

abbrev pub Follows : List Bool → List Kind → List Value → Type 0
Follows set kinds values = Each (Held set) Anything Anything (Carries set) kinds values

abbrev pub AnyStrong : ℕ → List Kind → List Value → Bool
AnyStrong n kinds values = list_any (λ t. t == n) (strong_targets kinds values)

abbrev pub AnyPair : List Bool → ℕ → List Kind → List Value → Bool
AnyPair set n kinds values = list_any (λ p. has set p.0 && (p.1 == n)) (pair_targets kinds values)

any_same : (n m : ℕ) (set : List Bool) → (m == n) ≡ true → IsIn set m → IsIn set n
any_same n m set e h = subst (λ k. IsIn set k) (eqb-true m n e) h

pub strong_back : (set : List Bool) (n : ℕ) (kinds : List Kind) (values : List Value) → Follows set kinds values → AnyStrong n kinds values ≡ true → IsIn set n
strong_back set n [] values h e = absurd (true≢false (sym e))
strong_back set n (Strong ∷ kinds) [] h e = absurd h
strong_back set n (Weak ∷ kinds) [] h e = absurd h
strong_back set n (Pair ∷ kinds) [] h e = absurd h
strong_back set n (Plain ∷ kinds) [] h e = absurd h
strong_back set n (Strong ∷ kinds) (Null ∷ xs) h e = strong_back set n kinds xs h.1 e
strong_back set n (Strong ∷ kinds) (Word w ∷ xs) h e = strong_back set n kinds xs h.1 e
strong_back set n (Strong ∷ kinds) (Ref m ∷ xs) h e =
    elim (or_cases (m == n) (AnyStrong n kinds xs) e) [ inl here ↦ any_same n m set here h.0 | inr rest ↦ strong_back set n kinds xs h.1 rest ]
strong_back set n (Weak ∷ kinds) (x ∷ xs) h e = strong_back set n kinds xs h.1 e
strong_back set n (Pair ∷ kinds) (x ∷ []) h e = absurd h
strong_back set n (Pair ∷ kinds) (x ∷ y ∷ xs) h e = strong_back set n kinds xs h.1 e
strong_back set n (Plain ∷ kinds) (x ∷ xs) h e = strong_back set n kinds xs h.1 e

pub pair_back : (set : List Bool) (n : ℕ) (kinds : List Kind) (values : List Value) → Follows set kinds values → AnyPair set n kinds values ≡ true → IsIn set n
pair_back set n [] values h e = absurd (true≢false (sym e))
pair_back set n (Strong ∷ kinds) [] h e = absurd h
pair_back set n (Weak ∷ kinds) [] h e = absurd h
pair_back set n (Pair ∷ kinds) [] h e = absurd h
pair_back set n (Plain ∷ kinds) [] h e = absurd h
pair_back set n (Strong ∷ kinds) (x ∷ xs) h e = pair_back set n kinds xs h.1 e
pair_back set n (Weak ∷ kinds) (x ∷ xs) h e = pair_back set n kinds xs h.1 e
pair_back set n (Plain ∷ kinds) (x ∷ xs) h e = pair_back set n kinds xs h.1 e
pair_back set n (Pair ∷ kinds) (x ∷ []) h e = absurd h
pair_back set n (Pair ∷ kinds) (Null ∷ y ∷ xs) h e = pair_back set n kinds xs h.1 e
pair_back set n (Pair ∷ kinds) (Word w ∷ y ∷ xs) h e = pair_back set n kinds xs h.1 e
pair_back set n (Pair ∷ kinds) (Ref k ∷ Null ∷ xs) h e = pair_back set n kinds xs h.1 e
pair_back set n (Pair ∷ kinds) (Ref k ∷ Word w ∷ xs) h e = pair_back set n kinds xs h.1 e
pair_back set n (Pair ∷ kinds) (Ref k ∷ Ref m ∷ xs) h e =
    elim (or_cases (has set k && (m == n)) (AnyPair set n kinds xs) e) [
      | inl here ↦ (let both = and_parts (has set k) (m == n) here in any_same n m set both.1 (h.0 both.0))
      | inr rest ↦ pair_back set n kinds xs h.1 rest
    ]

pub leads_back : (set : List Bool) (n : ℕ) (object : Object) → Follows set object.kinds object.values → leads_to set object n ≡ true → IsIn set n
leads_back set n object h e =
    elim (or_cases (AnyStrong n object.kinds object.values) (AnyPair set n object.kinds object.values) e) [
      | inl strong ↦ strong_back set n object.kinds object.values h strong
      | inr pair ↦ pair_back set n object.kinds object.values h pair
    ]

self : (n : ℕ) → (n == n) ≡ true
self n = eq-eqb n n refl

-- the other way, for an object whose words are of its fields' kinds
pub follows_from : (set : List Bool) (bound : ℕ) (kinds : List Kind) (values : List Value) → HaveKinds bound kinds values
    → ((n : ℕ) → AnyStrong n kinds values ≡ true → IsIn set n) → ((n : ℕ) → AnyPair set n kinds values ≡ true → IsIn set n) → Follows set kinds values
follows_from set bound [] values h s p = λ k d l. tt
follows_from set bound (Strong ∷ kinds) [] h s p = absurd h
follows_from set bound (Weak ∷ kinds) [] h s p = absurd h
follows_from set bound (Pair ∷ kinds) [] h s p = absurd h
follows_from set bound (Plain ∷ kinds) [] h s p = absurd h
follows_from set bound (Strong ∷ kinds) (Null ∷ xs) h s p = (tt, follows_from set bound kinds xs h.1 s p)
follows_from set bound (Strong ∷ kinds) (Word w ∷ xs) h s p = (tt, follows_from set bound kinds xs h.1 s p)
follows_from set bound (Strong ∷ kinds) (Ref m ∷ xs) h s p =
    (s m (or_left (m == m) _ (self m)), follows_from set bound kinds xs h.1 (λ n e. s n (or_right (m == n) _ e)) p)
follows_from set bound (Weak ∷ kinds) (x ∷ xs) h s p = (tt, follows_from set bound kinds xs h.1 s p)
follows_from set bound (Plain ∷ kinds) (x ∷ xs) h s p = (tt, follows_from set bound kinds xs h.1 s p)
follows_from set bound (Pair ∷ kinds) (x ∷ []) h s p = absurd h
follows_from set bound (Pair ∷ kinds) (Null ∷ y ∷ xs) h s p = (tt, follows_from set bound kinds xs h.3 s p)
follows_from set bound (Pair ∷ kinds) (Word w ∷ y ∷ xs) h s p = (tt, follows_from set bound kinds xs h.3 s p)
follows_from set bound (Pair ∷ kinds) (Ref k ∷ Null ∷ xs) h s p = ((λ i. tt), follows_from set bound kinds xs h.3 s p)
follows_from set bound (Pair ∷ kinds) (Ref k ∷ Word w ∷ xs) h s p = ((λ i. tt), follows_from set bound kinds xs h.3 s p)
follows_from set bound (Pair ∷ kinds) (Ref k ∷ Ref m ∷ xs) h s p = (
  (λ i. p m (or_left (has set k && (m == m)) _ (and_from (has set k) (m == m) i (self m)))),
  follows_from set bound kinds xs h.3 s (λ n e. p n (or_right (has set k && (m == n)) _ e)),
)

-- ---- the graph of the nodes

-- each member's words lead to members
abbrev pub AllFollow : List Node → List Bool → Type 0
AllFollow nodes set = (m : ℕ) → IsIn set m → Follows set (node_at nodes m).object.kinds (node_at nodes m).object.values

pub closed_from : (nodes : List Node) (set : List Bool) → AllFollow nodes set → IsClosed (graph_of nodes) set
closed_from nodes set h m n i e =
    leads_back set n (node_at nodes m).object (h m i) (subst (λ o. leads_to set o n ≡ true) (object_of_node nodes m) e)

pub follow_from : (nodes : List Node) (set : List Bool) → ((m : ℕ) → (bound : ℕ) × HaveKinds bound (node_at nodes m).object.kinds (node_at nodes m).object.values)
    → IsClosed (graph_of nodes) set → AllFollow nodes set
follow_from nodes set typed closed m i =
    let o : Object = (node_at nodes m).object in
    let leads : (n : ℕ) → leads_to set o n ≡ true → IsIn set n =
    (λ n e. closed m n i (subst (λ x. leads_to set x n ≡ true) (sym (object_of_node nodes m)) e)) in
    follows_from set (typed m).0 o.kinds o.values (typed m).1
    (λ n e. leads n (or_left (AnyStrong n o.kinds o.values) (AnyPair set n o.kinds o.values) e))
    (λ n e. leads n (or_right (AnyStrong n o.kinds o.values) (AnyPair set n o.kinds o.values) e))
