-- The graph in which places stand for the nodes that lie there.
use Rattle.std.proofs.Common.{◌≡◌, ℕ, Bool, List, [], ◌∷◌, map, refl, sym, ap, ◌∙◌, subst, inl, inr}
use Rattle.std.specs.List.{Contains}
use Rattle.gc_graph.specs.declared.kind.Kind.{Kind}
use Rattle.gc_graph.specs.declared.kind.Kind.TheVariants.{Strong, Weak, Pair, Plain}
use Rattle.gc_graph.specs.declared.kind.Value.{Value}
use Rattle.gc_graph.specs.declared.kind.Value.TheVariants.{Null, Ref, Word}
use Rattle.gc_graph.specs.Graph.{Object, strong_targets, pair_targets}
use Rattle.gc_graph.specs.Members.{Contains-map, Contains-map_some}
use Rattle.gc_graph.specs.Leading.{IsLed}

-- ---- names of places in place of names of nodes

-- the value with a place in place of the node that it names
abbrev pub renamed : (ℕ → ℕ) → Value → Value
renamed f Null = Null
renamed f (Ref n) = Ref (f n)
renamed f (Word w) = Word w

strong_renamed : (f : ℕ → ℕ) (kinds : List Kind) (values : List Value) → strong_targets kinds (map (renamed f) values) ≡ map f (strong_targets kinds values)
strong_renamed f [] values = refl
strong_renamed f (Strong ∷ kinds) [] = refl
strong_renamed f (Weak ∷ kinds) [] = refl
strong_renamed f (Pair ∷ kinds) [] = refl
strong_renamed f (Plain ∷ kinds) [] = refl
strong_renamed f (Strong ∷ kinds) (Ref t ∷ values) = ap (λ ts. f t ∷ ts) (strong_renamed f kinds values)
strong_renamed f (Strong ∷ kinds) (Null ∷ values) = strong_renamed f kinds values
strong_renamed f (Strong ∷ kinds) (Word w ∷ values) = strong_renamed f kinds values
strong_renamed f (Weak ∷ kinds) (v ∷ values) = strong_renamed f kinds values
strong_renamed f (Plain ∷ kinds) (v ∷ values) = strong_renamed f kinds values
strong_renamed f (Pair ∷ kinds) (key ∷ []) = strong_renamed f kinds []
strong_renamed f (Pair ∷ kinds) (key ∷ v ∷ values) = strong_renamed f kinds values

-- both parts of a pair with other names
abbrev pub both : (ℕ → ℕ) → ℕ × ℕ → ℕ × ℕ
both f p = (f p.0, f p.1)

pub pairs_renamed : (f : ℕ → ℕ) (kinds : List Kind) (values : List Value) → pair_targets kinds (map (renamed f) values) ≡ map (both f) (pair_targets kinds values)
pairs_renamed f [] values = refl
pairs_renamed f (Strong ∷ kinds) [] = refl
pairs_renamed f (Weak ∷ kinds) [] = refl
pairs_renamed f (Pair ∷ kinds) [] = refl
pairs_renamed f (Plain ∷ kinds) [] = refl
pairs_renamed f (Strong ∷ kinds) (v ∷ values) = pairs_renamed f kinds values
pairs_renamed f (Weak ∷ kinds) (v ∷ values) = pairs_renamed f kinds values
pairs_renamed f (Plain ∷ kinds) (v ∷ values) = pairs_renamed f kinds values
pairs_renamed f (Pair ∷ kinds) (Null ∷ []) = pairs_renamed f kinds []
pairs_renamed f (Pair ∷ kinds) (Ref k ∷ []) = pairs_renamed f kinds []
pairs_renamed f (Pair ∷ kinds) (Word w ∷ []) = pairs_renamed f kinds []
pairs_renamed f (Pair ∷ kinds) (Ref k ∷ Ref v ∷ values) = ap (λ ps. (f k, f v) ∷ ps) (pairs_renamed f kinds values)
pairs_renamed f (Pair ∷ kinds) (Ref k ∷ Null ∷ values) = pairs_renamed f kinds values
pairs_renamed f (Pair ∷ kinds) (Ref k ∷ Word w ∷ values) = pairs_renamed f kinds values
pairs_renamed f (Pair ∷ kinds) (Null ∷ Null ∷ values) = pairs_renamed f kinds values
pairs_renamed f (Pair ∷ kinds) (Null ∷ Ref v ∷ values) = pairs_renamed f kinds values
pairs_renamed f (Pair ∷ kinds) (Null ∷ Word w ∷ values) = pairs_renamed f kinds values
pairs_renamed f (Pair ∷ kinds) (Word u ∷ Null ∷ values) = pairs_renamed f kinds values
pairs_renamed f (Pair ∷ kinds) (Word u ∷ Ref v ∷ values) = pairs_renamed f kinds values
pairs_renamed f (Pair ∷ kinds) (Word u ∷ Word w ∷ values) = pairs_renamed f kinds values

-- the object with its names renamed
abbrev pub renamed_object : (ℕ → ℕ) → Object → Object
renamed_object f o = record o { values = map (renamed f) o.values }

pub led_renamed : (f : ℕ → ℕ) (test : ℕ → Bool) (o : Object) (n : ℕ) → IsLed (λ k. test (f k)) o n → IsLed test (renamed_object f o) (f n)
led_renamed f test o n led = elim led [
  | inl strong ↦ inl (subst (λ ts. Contains ts (f n)) (sym (strong_renamed f o.kinds o.values)) (Contains-map f (strong_targets o.kinds o.values) n strong))
  | inr pair ↦ inr (
    f pair.0,
    subst (λ ps. Contains ps (f pair.0, f n)) (sym (pairs_renamed f o.kinds o.values)) (Contains-map (both f) (pair_targets o.kinds o.values) (pair.0, n) pair.1),
    pair.2,
  )
]

pub renamed_led : (f : ℕ → ℕ) (test : ℕ → Bool) (o : Object) (q : ℕ) → IsLed test (renamed_object f o) q → (n : ℕ) × (f n ≡ q) × IsLed (λ k. test (f k)) o n
renamed_led f test o q led = elim led [
  | inl strong ↦
      (let w = Contains-map_some f (strong_targets o.kinds o.values) q (subst (λ ts. Contains ts q) (strong_renamed f o.kinds o.values) strong) in
      (w.0, w.2, inl w.1))
  | inr pair ↦
      (let w = Contains-map_some (both f) (pair_targets o.kinds o.values) (pair.0, q) (subst (λ ps. Contains ps (pair.0, q)) (pairs_renamed f o.kinds o.values) pair.1) in
      (w.0.1, ap (λ (p : ℕ × ℕ). p.1) w.2, inr (w.0.0, w.1, ap (λ (p : ℕ × ℕ). test p.0) w.2 ∙ pair.2)))
]
