-- What a write to a field keeps of its object.
use Rattle.std.proofs.Common.{◌≡◌, ℕ, suc, ◌+◌, true, true≢false, List, length, set, refl, sym, ◌∙◌, subst, arith}
use Rattle.std.proofs.lemmas.List.{length-set}
use Rattle.gc_graph.specs.declared.kind.Kind.{Kind}
use Rattle.gc_graph.specs.declared.kind.Kind.TheVariants.{Strong, Weak, Pair, Plain}
use Rattle.gc_graph.specs.declared.kind.Value.{Value}
use Rattle.gc_graph.specs.Graph.{Object}
use Rattle.gc_graph.specs.State.{Setup, Node}
use Rattle.gc_graph.specs.Fields.{kind_of_field, word_of_field, with_value, is_reference, is_pair, is_plain}
use Rattle.gc_graph.specs.Valid.{IsTyped, IsReferenceBelow, IsPlainWord}
use Rattle.gc_graph.proofs.Shapes.{word_at_is, Each, Suits, write_one, write_pair, IsPairBelow, typed_from, kinds_from}
use Rattle.gc_graph.proofs.NodeWrites.{IsLikeNode}

-- both words of a pair
abbrev pub with_pair : Node → ℕ → Value → Value → Node
with_pair node word key value = with_value (with_value node word key) (word + 1) value

module _ (S W N : Value → Type 0) (P : Value → Value → Type 0) (object : Object) (f : ℕ) where
  pub one_written : (value : Value) → Suits S W N (kind_of_field object f) value → Each S W N P object.kinds object.values
      → Each S W N P object.kinds (set object.values (word_of_field object f) value)
  one_written value suits h =
      subst (λ w. Each S W N P object.kinds (set object.values w value)) (sym (word_at_is object.kinds f))
      (write_one S W N P object.kinds object.values f value suits h)

  pub pair_written : (key value : Value) → is_pair (kind_of_field object f) ≡ true → P key value → Each S W N P object.kinds object.values
      → Each S W N P object.kinds (set (set object.values (word_of_field object f) key) (word_of_field object f + 1) value)
  pair_written key value pair p h =
      let next : word_of_field object f + 1 ≡ suc (word_of_field object f) = omega arith in
      subst (λ w. Each S W N P object.kinds (set (set object.values (word_of_field object f) key) w value)) (sym next)
      (subst (λ w. Each S W N P object.kinds (set (set object.values w key) (suc w) value)) (sym (word_at_is object.kinds f))
      (write_pair S W N P object.kinds object.values f key value pair p h))

  pub suits_reference : (kind : Kind) (value : Value) → is_reference kind ≡ true → S value → W value → Suits S W N kind value
  suits_reference Strong value e s w = s
  suits_reference Weak value e s w = w
  suits_reference Pair value e s w = absurd (true≢false (sym e))
  suits_reference Plain value e s w = absurd (true≢false (sym e))

  pub suits_plain : (kind : Kind) (value : Value) → is_plain kind ≡ true → N value → Suits S W N kind value
  suits_plain Strong value e n = absurd (true≢false (sym e))
  suits_plain Weak value e n = absurd (true≢false (sym e))
  suits_plain Pair value e n = absurd (true≢false (sym e))
  suits_plain Plain value e n = n

-- ---- a typed node stays typed

pub record IsValuesOf (setup : Setup) (bound : ℕ) (node : Node) (values : List Value) : Type 0 where
  pub each : Each (IsReferenceBelow bound) (IsReferenceBelow bound) IsPlainWord (IsPairBelow bound) node.object.kinds values
  pub whole : length values ≡ length node.object.values

abbrev pub with_values : Node → List Value → Node
with_values node values = record node { object = record node.object { values = values } }

pub typed_with : (setup : Setup) (bound : ℕ) (node : Node) (values : List Value) → IsTyped setup bound node → IsValuesOf setup bound node values
    → IsTyped setup bound (with_values node values)
typed_with setup bound node values t v = record {
  ty = t.ty;
  kinds_are = t.kinds_are;
  values_are = kinds_from bound node.object.kinds values v.each;
  count = v.whole ∙ t.count;
}

pub like_with : (node : Node) (values : List Value) → length values ≡ length node.object.values → IsLikeNode node (with_values node values)
like_with node values e = record { place = refl; size = e; life = refl; ty = refl }

module _ (setup : Setup) (bound : ℕ) (node : Node) (f : ℕ) (typed : IsTyped setup bound node) where
  pub one_typed : (value : Value) → Suits (IsReferenceBelow bound) (IsReferenceBelow bound) IsPlainWord (kind_of_field node.object f) value
      → IsTyped setup bound (with_value node (word_of_field node.object f) value)
  one_typed value suits =
      typed_with setup bound node _ typed
      (record {
        each = one_written (IsReferenceBelow bound) (IsReferenceBelow bound) IsPlainWord (IsPairBelow bound) node.object f value suits
            (typed_from bound node.object.kinds node.object.values typed.values_are);
        whole = length-set node.object.values (word_of_field node.object f) value;
      })

  pub pair_typed : (key value : Value) → is_pair (kind_of_field node.object f) ≡ true → IsPairBelow bound key value
      → IsTyped setup bound (with_pair node (word_of_field node.object f) key value)
  pair_typed key value pair p =
      typed_with setup bound node _ typed
      (record {
        each = pair_written (IsReferenceBelow bound) (IsReferenceBelow bound) IsPlainWord (IsPairBelow bound) node.object f key value pair p
            (typed_from bound node.object.kinds node.object.values typed.values_are);
        whole = length-set (set node.object.values (word_of_field node.object f) key) (word_of_field node.object f + 1) value
            ∙ length-set node.object.values (word_of_field node.object f) key;
      })

pub one_like : (node : Node) (word : ℕ) (value : Value) → IsLikeNode node (with_value node word value)
one_like node word value = like_with node _ (length-set node.object.values word value)

pub pair_like : (node : Node) (word : ℕ) (key value : Value) → IsLikeNode node (with_pair node word key value)
pair_like node word key value =
    like_with node _ (length-set (set node.object.values word key) (word + 1) value ∙ length-set node.object.values word key)
