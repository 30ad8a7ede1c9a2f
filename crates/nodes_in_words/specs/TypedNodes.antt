-- What a valid state says of its nodes.
use Rattle.std.proofs.Common.{◌≡◌, ℕ, zero, suc, ◌+◌, ◌<◌, List, [], ◌∷◌, ◌++◌, length, map, replicate, refl, sym, ap, ◌∙◌, subst}
use Rattle.std.specs.List.{All}
use Rattle.std.proofs.lemmas.List.{map-append, replicate-append-replicate}
use Rattle.std.proofs.lemmas.List.Elements.{All-cons, All-weaker}
use Rattle.std.proofs.lemmas.List.Sums.{sum_by-cons}
use Rattle.gc_graph.specs.declared.kind.Kind.{Kind}
use Rattle.gc_graph.specs.declared.kind.Kind.TheVariants.{Strong, Weak, Pair, Plain}
use Rattle.gc_graph.specs.declared.kind.Value.{Value}
use Rattle.gc_graph.specs.declared.kind.Value.TheVariants.{Null, Ref, Word}
use Rattle.gc_graph.specs.State.{Setup, Node, node_at, type_at, IsLive}
use Rattle.gc_graph.specs.Valid.{IsTyped, HaveKinds, IsReferenceBelow, IsPlainWord, NamesLive}
use Rattle.gc_graph.specs.Fields.{words_of_kind, field_words, nulls_of_kind, nulls_of, new_node}
use Rattle.nodes_in_words.specs.Nodes.{word_of, AreOfValid}

-- ---- what a valid state says of its nodes

-- it names no node, or one whose number is below the bound
abbrev pub NamesBelow : ℕ → Value → Type 0
NamesBelow bound Null = Unit {0}
NamesBelow bound (Ref n) = n < bound
NamesBelow bound (Word w) = Unit {0}

reference_below : (bound : ℕ) (v : Value) → IsReferenceBelow bound v → NamesBelow bound v
reference_below bound Null is = tt
reference_below bound (Ref n) is = is
reference_below bound (Word w) is = tt

plain_names : (bound : ℕ) (v : Value) → IsPlainWord v → NamesBelow bound v
plain_names bound Null is = tt
plain_names bound (Ref n) is = absurd is
plain_names bound (Word w) is = tt

pub below_from : (bound : ℕ) (kinds : List Kind) (values : List Value) → HaveKinds bound kinds values → All (NamesBelow bound) values
below_from bound [] values is = All-weaker IsPlainWord (NamesBelow bound) (plain_names bound) values is
below_from bound (Strong ∷ kinds) [] is = absurd is
below_from bound (Weak ∷ kinds) [] is = absurd is
below_from bound (Pair ∷ kinds) [] is = absurd is
below_from bound (Plain ∷ kinds) [] is = absurd is
below_from bound (Strong ∷ kinds) (v ∷ values) is = All-cons (NamesBelow bound) v values (reference_below bound v is.0) (below_from bound kinds values is.1)
below_from bound (Weak ∷ kinds) (v ∷ values) is = All-cons (NamesBelow bound) v values (reference_below bound v is.0) (below_from bound kinds values is.1)
below_from bound (Pair ∷ kinds) (key ∷ []) is = absurd is
below_from bound (Pair ∷ kinds) (key ∷ v ∷ values) is =
    All-cons (NamesBelow bound) key (v ∷ values) (reference_below bound key is.0)
    (All-cons (NamesBelow bound) v values (reference_below bound v is.1) (below_from bound kinds values is.3))
below_from bound (Plain ∷ kinds) (v ∷ values) is = All-cons (NamesBelow bound) v values (plain_names bound v is.0) (below_from bound kinds values is.1)

-- what is known of the nodes of a valid state
pub record AreKnown (setup : Setup) (nodes : List Node) : Type 0 where
  pub typed : All (IsTyped setup (length nodes)) nodes
  pub below : All (λ x. All (NamesBelow (length nodes)) x.object.values) nodes
  pub references : (n : ℕ) → IsLive nodes n → All (NamesLive nodes) (node_at nodes n).object.values

pub known_nodes : (setup : Setup) (nodes : List Node) → AreOfValid setup nodes → AreKnown setup nodes
known_nodes setup nodes (s, valid, is) = subst (AreKnown setup) is (record {
  typed = valid.typed;
  below = All-weaker (IsTyped setup (length s.nodes)) (λ x. All (NamesBelow (length s.nodes)) x.object.values)
      (λ x typed. below_from (length s.nodes) x.object.kinds x.object.values typed.values_are) s.nodes valid.typed;
  references = valid.named;
})

-- ---- a new object

zero_words : (f : ℕ → ℕ) (n : ℕ) → map (word_of f) (replicate n (Word 0)) ≡ replicate n 0
zero_words f zero = refl
zero_words f (suc n) = ap (λ ws. 0 ∷ ws) (zero_words f n)

null_words : (f : ℕ → ℕ) (kinds : List Kind) → map (word_of f) (nulls_of kinds) ≡ replicate (field_words kinds) 0
null_words f [] = refl
null_words f (kind ∷ kinds) =
    map-append (word_of f) (nulls_of_kind kind) (nulls_of kinds)
    ∙ ap (λ ws. ws ++ map (word_of f) (nulls_of kinds)) (one_null f kind)
    ∙ ap (λ ws. replicate (words_of_kind kind) 0 ++ ws) (null_words f kinds)
    ∙ replicate-append-replicate (words_of_kind kind) (field_words kinds) 0
    ∙ ap (λ n. replicate n 0) (sym (sum_by-cons words_of_kind kind kinds)) where
      one_null : (f : ℕ → ℕ) (kind : Kind) → map (word_of f) (nulls_of_kind kind) ≡ replicate (words_of_kind kind) 0
      one_null f Strong = refl
      one_null f Weak = refl
      one_null f Pair = refl
      one_null f Plain = refl

-- the words of a new object are null
pub new_words : (setup : Setup) (f : ℕ → ℕ) (t extra place : ℕ)
    → map (word_of f) (new_node setup t extra place).object.values ≡ replicate (field_words (type_at setup t).kinds + extra) 0
new_words setup f t extra place =
    let kinds : List Kind = (type_at setup t).kinds in
    map-append (word_of f) (nulls_of kinds) (replicate extra (Word 0))
    ∙ ap (λ ws. ws ++ map (word_of f) (replicate extra (Word 0))) (null_words f kinds)
    ∙ ap (λ ws. replicate (field_words kinds) 0 ++ ws) (zero_words f extra) ∙ replicate-append-replicate (field_words kinds) extra 0
