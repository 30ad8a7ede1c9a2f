-- What a new object holds.
use Rattle.std.proofs.Common.{◌≡◌, ℕ, ◌+◌, ◌<◌, ◌≤◌, Bool, List, [], ◌∷◌, ◌++◌, length, replicate, All, refl, arith}
use Rattle.std.proofs.lemmas.List.{length-append, length-replicate}
use Rattle.std.proofs.lemmas.List.Sums.{sum_by-cons}
use Rattle.std.proofs.lemmas.List.Elements.{All-cons, All-replicate}
use Rattle.gc_graph.specs.declared.kind.Kind.{Kind}
use Rattle.gc_graph.specs.declared.kind.Kind.TheVariants.{Strong, Weak, Pair, Plain}
use Rattle.gc_graph.specs.declared.kind.Value.{Value}
use Rattle.gc_graph.specs.declared.kind.Value.TheVariants.{Null, Ref, Word}
use Rattle.gc_graph.specs.Graph.{IsIn}
use Rattle.gc_graph.specs.State.{Setup, Node, type_at, size_of}
use Rattle.gc_graph.specs.Fields.{words_of_kind, field_words, nulls_of, new_node, size_of_type}
use Rattle.gc_graph.specs.Valid.{HaveKinds, IsTyped, IsReferenceBelow, IsPlainWord}
use Rattle.gc_graph.proofs.Shapes.{Each, IsPairBelow, kinds_from}
use Rattle.gc_graph.proofs.Follows.{Held, Carries, Follows}

abbrev pub Nulls : List Kind → ℕ → List Value
Nulls kinds extra = nulls_of kinds ++ replicate extra (Word 0)

module _ (S W N : Value → Type 0) (P : Value → Value → Type 0) (s : S Null) (w : W Null) (n : N (Word 0)) (p : P Null Null) where
  pub nulls_each : (kinds : List Kind) (extra : ℕ) → Each S W N P kinds (Nulls kinds extra)
  nulls_each [] extra = All-replicate N extra (Word 0) n
  nulls_each (Strong ∷ kinds) extra = (s, nulls_each kinds extra)
  nulls_each (Weak ∷ kinds) extra = (w, nulls_each kinds extra)
  nulls_each (Pair ∷ kinds) extra = (p, nulls_each kinds extra)
  nulls_each (Plain ∷ kinds) extra = (n, nulls_each kinds extra)

pub nulls_all : (Q : Value → Type 0) → Q Null → Q (Word 0) → (kinds : List Kind) (extra : ℕ) → All Q (Nulls kinds extra)
nulls_all Q null word [] extra = All-replicate Q extra (Word 0) word
nulls_all Q null word (Strong ∷ kinds) extra = All-cons Q Null (Nulls kinds extra) null (nulls_all Q null word kinds extra)
nulls_all Q null word (Weak ∷ kinds) extra = All-cons Q Null (Nulls kinds extra) null (nulls_all Q null word kinds extra)
nulls_all Q null word (Plain ∷ kinds) extra = All-cons Q (Word 0) (Nulls kinds extra) word (nulls_all Q null word kinds extra)
nulls_all Q null word (Pair ∷ kinds) extra =
    All-cons Q Null (Null ∷ Nulls kinds extra) null (All-cons Q Null (Nulls kinds extra) null (nulls_all Q null word kinds extra))

nulls_long : (kinds : List Kind) → length (nulls_of kinds) ≡ field_words kinds
nulls_long [] = refl
nulls_long (Strong ∷ kinds) = omega (arith, sum_by-cons words_of_kind Strong kinds, nulls_long kinds)
nulls_long (Weak ∷ kinds) = omega (arith, sum_by-cons words_of_kind Weak kinds, nulls_long kinds)
nulls_long (Pair ∷ kinds) = omega (arith, sum_by-cons words_of_kind Pair kinds, nulls_long kinds)
nulls_long (Plain ∷ kinds) = omega (arith, sum_by-cons words_of_kind Plain kinds, nulls_long kinds)

pub length-nulls : (kinds : List Kind) (extra : ℕ) → length (Nulls kinds extra) ≡ field_words kinds + extra
length-nulls kinds extra =
    omega (arith, length-append (nulls_of kinds) (replicate extra (Word 0)), length-replicate extra (Word 0), nulls_long kinds)

pub new_size : (setup : Setup) (t extra place : ℕ) → size_of (new_node setup t extra place) ≡ size_of_type setup t extra
new_size setup t extra place = omega (arith, length-nulls (type_at setup t).kinds extra)

pub new_typed : (setup : Setup) (bound t extra place : ℕ) → t < length setup.types → IsTyped setup bound (new_node setup t extra place)
new_typed setup bound t extra place l = record {
  ty = l;
  kinds_are = refl;
  values_are = kinds_from bound (type_at setup t).kinds (Nulls (type_at setup t).kinds extra)
      (nulls_each (IsReferenceBelow bound) (IsReferenceBelow bound) IsPlainWord (IsPairBelow bound) tt tt tt
      (record { key_is = tt; value_is = tt; paired = refl }) (type_at setup t).kinds extra);
  count = length-nulls (type_at setup t).kinds extra;
}

-- ---- more nodes

below_more : (bound more : ℕ) (value : Value) → bound ≤ more → IsReferenceBelow bound value → IsReferenceBelow more value
below_more bound more Null le h = tt
below_more bound more (Ref n) le h = omega arith
below_more bound more (Word w) le h = absurd h

kinds_more : (bound more : ℕ) (kinds : List Kind) (values : List Value) → bound ≤ more → HaveKinds bound kinds values → HaveKinds more kinds values
kinds_more bound more [] values le h = h
kinds_more bound more (Strong ∷ kinds) [] le h = absurd h
kinds_more bound more (Weak ∷ kinds) [] le h = absurd h
kinds_more bound more (Pair ∷ kinds) [] le h = absurd h
kinds_more bound more (Plain ∷ kinds) [] le h = absurd h
kinds_more bound more (Strong ∷ kinds) (x ∷ xs) le h = (below_more bound more x le h.0, kinds_more bound more kinds xs le h.1)
kinds_more bound more (Weak ∷ kinds) (x ∷ xs) le h = (below_more bound more x le h.0, kinds_more bound more kinds xs le h.1)
kinds_more bound more (Plain ∷ kinds) (x ∷ xs) le h = (h.0, kinds_more bound more kinds xs le h.1)
kinds_more bound more (Pair ∷ kinds) (x ∷ []) le h = absurd h
kinds_more bound more (Pair ∷ kinds) (x ∷ y ∷ xs) le h =
    (below_more bound more x le h.0, below_more bound more y le h.1, h.2, kinds_more bound more kinds xs le h.3)

pub typed_more : (setup : Setup) (bound more : ℕ) (node : Node) → bound ≤ more → IsTyped setup bound node → IsTyped setup more node
typed_more setup bound more node le t = record {
  ty = t.ty;
  kinds_are = t.kinds_are;
  values_are = kinds_more bound more node.object.kinds node.object.values le t.values_are;
  count = t.count;
}

-- ---- a larger set, in which there are no more of the nodes below the bound

module _ (may after : List Bool) (bound : ℕ) (more : (k : ℕ) → IsIn may k → IsIn after k) (less : (k : ℕ) → k < bound → IsIn after k → IsIn may k) where
  held_more : (value : Value) → Held may value → Held after value
  held_more Null h = tt
  held_more (Ref n) h = more n h
  held_more (Word w) h = tt

  carries_more : (key value : Value) → IsReferenceBelow bound key → Carries may key value → Carries after key value
  carries_more Null value l h = tt
  carries_more (Ref n) value l h = λ i. held_more value (h (less n l i))
  carries_more (Word w) value l h = tt

  pub follows_more : (kinds : List Kind) (values : List Value) → HaveKinds bound kinds values → Follows may kinds values → Follows after kinds values
  follows_more [] values h f = λ k d l. tt
  follows_more (Strong ∷ kinds) [] h f = absurd h
  follows_more (Weak ∷ kinds) [] h f = absurd h
  follows_more (Pair ∷ kinds) [] h f = absurd h
  follows_more (Plain ∷ kinds) [] h f = absurd h
  follows_more (Strong ∷ kinds) (x ∷ xs) h f = (held_more x f.0, follows_more kinds xs h.1 f.1)
  follows_more (Weak ∷ kinds) (x ∷ xs) h f = (tt, follows_more kinds xs h.1 f.1)
  follows_more (Plain ∷ kinds) (x ∷ xs) h f = (tt, follows_more kinds xs h.1 f.1)
  follows_more (Pair ∷ kinds) (x ∷ []) h f = absurd h
  follows_more (Pair ∷ kinds) (x ∷ y ∷ xs) h f = (carries_more x y h.0 f.0, follows_more kinds xs h.3 f.1)
