-- What a pause leaves of the nodes that it condemns and of the values that it clears.
use Rattle.std.proofs.Common.{◌≡◌, ℕ, suc, Bool, true, false, List, [], ◌∷◌, length, refl, ap, ◌∙◌, if◌then◌else◌}
use Rattle.std.proofs.lemmas.Bool.{cond_both}
use Rattle.gc_graph.specs.declared.kind.Kind.{Kind}
use Rattle.gc_graph.specs.declared.kind.Kind.TheVariants.{Strong, Weak, Pair, Plain}
use Rattle.gc_graph.specs.declared.kind.Value.{Value}
use Rattle.gc_graph.specs.declared.kind.Value.TheVariants.{Null}
use Rattle.gc_graph.specs.State.{Setup, Node, is_live}
use Rattle.gc_graph.specs.State.Life.{Gone}
use Rattle.gc_graph.specs.Pause.{judged, condemn, names_dead, cleared_values, with_cleared, clear_node}
use Rattle.gc_graph.specs.Valid.{HaveKinds, IsTyped, IsReferenceBelow, ArePaired}

-- what is finalised stays so when it is judged, kept or not
pub judged_gone : (flag : Bool) → judged flag Gone ≡ Gone
judged_gone true = refl
judged_gone false = refl

-- condemning leaves as many nodes as there were
pub length-condemn : (kept : List Bool) (nodes : List Node) → length (condemn kept nodes) ≡ length nodes
length-condemn kept [] = refl
length-condemn [] (node ∷ nodes) = ap suc (length-condemn [] nodes)
length-condemn (flag ∷ kept) (node ∷ nodes) = ap suc (length-condemn kept nodes)

-- clearing weak fields and pairs leaves as many values as there were
pub length-cleared : (dead : ℕ → Bool) (kinds : List Kind) (values : List Value) → length (cleared_values dead kinds values) ≡ length values
length-cleared dead [] values = refl
length-cleared dead (Strong ∷ kinds) [] = refl
length-cleared dead (Weak ∷ kinds) [] = refl
length-cleared dead (Pair ∷ kinds) [] = refl
length-cleared dead (Plain ∷ kinds) [] = refl
length-cleared dead (Strong ∷ kinds) (x ∷ xs) = ap suc (length-cleared dead kinds xs)
length-cleared dead (Weak ∷ kinds) (x ∷ xs) = ap suc (length-cleared dead kinds xs)
length-cleared dead (Plain ∷ kinds) (x ∷ xs) = ap suc (length-cleared dead kinds xs)
length-cleared dead (Pair ∷ kinds) (x ∷ []) = refl
length-cleared dead (Pair ∷ kinds) (x ∷ y ∷ xs) = ap (λ n. suc (suc n)) (length-cleared dead kinds xs)

cleared_below : (bound : ℕ) (flag : Bool) (value : Value) → IsReferenceBelow bound value → IsReferenceBelow bound (if flag then Null else value)
cleared_below bound true value h = tt
cleared_below bound false value h = h

cleared_paired : (flag : Bool) (key value : Value) → ArePaired key value → ArePaired (if flag then Null else key) (if flag then Null else value)
cleared_paired true key value h = refl
cleared_paired false key value h = h

pub cleared_kinds : (bound : ℕ) (dead : ℕ → Bool) (kinds : List Kind) (values : List Value) → HaveKinds bound kinds values → HaveKinds bound kinds (cleared_values dead kinds values)
cleared_kinds bound dead [] values h = h
cleared_kinds bound dead (Strong ∷ kinds) [] h = h
cleared_kinds bound dead (Weak ∷ kinds) [] h = h
cleared_kinds bound dead (Pair ∷ kinds) [] h = h
cleared_kinds bound dead (Plain ∷ kinds) [] h = h
cleared_kinds bound dead (Strong ∷ kinds) (x ∷ xs) h = (h.0, cleared_kinds bound dead kinds xs h.1)
cleared_kinds bound dead (Weak ∷ kinds) (x ∷ xs) h = (cleared_below bound (names_dead dead x) x h.0, cleared_kinds bound dead kinds xs h.1)
cleared_kinds bound dead (Plain ∷ kinds) (x ∷ xs) h = (h.0, cleared_kinds bound dead kinds xs h.1)
cleared_kinds bound dead (Pair ∷ kinds) (x ∷ []) h = h
cleared_kinds bound dead (Pair ∷ kinds) (x ∷ y ∷ xs) h = (
  cleared_below bound (names_dead dead x) x h.0,
  cleared_below bound (names_dead dead x) y h.1,
  cleared_paired (names_dead dead x) x y h.2,
  cleared_kinds bound dead kinds xs h.3,
)

-- a node that has the fields of its type and names only numbers below the bound still does once it is cleared
pub clear_typed : (setup : Setup) (bound : ℕ) (dead : ℕ → Bool) (node : Node) → IsTyped setup bound node → IsTyped setup bound (clear_node dead node)
clear_typed setup bound dead node t =
    cond_both (is_live node.life) (with_cleared dead node) node (IsTyped setup bound)
    (λ e. record {
      ty = t.ty;
      kinds_are = t.kinds_are;
      values_are = cleared_kinds bound dead node.object.kinds node.object.values t.values_are;
      count = length-cleared dead node.object.kinds node.object.values ∙ t.count;
    })
    (λ e. t)
