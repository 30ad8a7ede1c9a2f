-- The words of a valid state's nodes: both words of a pair are null, or neither is.
use Rattle.std.proofs.Common.{◌≡◌, ℕ, zero, suc, List, [], ◌∷◌, length, map, get_or, refl, sym, ap, ◌∙◌, subst, arith, add-one}
use mathlib.Core.Logic.{◌↔◌}
use Rattle.std.proofs.lemmas.List.Elements.{All-get_or}
use Rattle.gc_graph.specs.declared.kind.Kind.{Kind}
use Rattle.gc_graph.specs.declared.kind.Kind.TheVariants.{Strong, Weak, Pair, Plain}
use Rattle.gc_graph.specs.declared.kind.Value.{Value}
use Rattle.gc_graph.specs.declared.kind.Value.TheVariants.{Null, Ref, Word}
use Rattle.gc_graph.specs.State.{Setup, ObjectType, Node, node_at, no_node}
use Rattle.gc_graph.specs.Valid.{IsTyped, HaveKinds, IsReferenceBelow, ArePaired}
use Rattle.type_table.specs.Types.{declared_kinds}
use Rattle.marker_core.specs.declared.states.Body.{Body}
use Rattle.marker_core.specs.declared.states.Role.TheVariants.{KeyWord}
use Rattle.marker_core.specs.Bodies.{role_at, kinds_of_type}
use Rattle.page_words.specs.Roles.{kind_lists, kinds_fit}
use Rattle.page_words.specs.Seat.{SeatView, PairsAreWhole}
use Rattle.nodes_in_words.specs.Nodes.{place_of, word_of, IsHeld, AreOfValid}
use Rattle.nodes_in_words.specs.NodePlaces.{body_node}
use Rattle.nodes_in_words.specs.TypedNodes.{known_nodes}

both_null : (place : ℕ → ℕ) (bound : ℕ) (key value : Value) → IsReferenceBelow bound value → ArePaired key value
    → (word_of place key ≡ 0) ↔ (word_of place value ≡ 0)
both_null place bound Null value below paired = (λ _. ap (word_of place) paired, λ _. refl)
both_null place bound (Ref n) Null below paired = absurd (paired refl)
both_null place bound (Ref n) (Ref m) below paired = (λ null. absurd (omega (arith, null)), λ null. absurd (omega (arith, null)))
both_null place bound (Ref n) (Word w) below paired = absurd below
both_null place bound (Word w) value below paired = absurd paired

paired_words : (place : ℕ → ℕ) (bound : ℕ) (kinds : List Kind) (values : List Value) (i : ℕ) → HaveKinds bound kinds values → role_at kinds i ≡ KeyWord
    → (get_or (map (word_of place) values) i 0 ≡ 0) ↔ (get_or (map (word_of place) values) (suc i) 0 ≡ 0)
paired_words place bound [] values i have role = cc
paired_words place bound (Strong ∷ kinds) [] i have role = absurd have
paired_words place bound (Weak ∷ kinds) [] i have role = absurd have
paired_words place bound (Pair ∷ kinds) [] i have role = absurd have
paired_words place bound (Plain ∷ kinds) [] i have role = absurd have
paired_words place bound (Strong ∷ kinds) (x ∷ values) zero have role = cc
paired_words place bound (Strong ∷ kinds) (x ∷ values) (suc i) have role = paired_words place bound kinds values i have.1 role
paired_words place bound (Weak ∷ kinds) (x ∷ values) zero have role = cc
paired_words place bound (Weak ∷ kinds) (x ∷ values) (suc i) have role = paired_words place bound kinds values i have.1 role
paired_words place bound (Plain ∷ kinds) (x ∷ values) zero have role = cc
paired_words place bound (Plain ∷ kinds) (x ∷ values) (suc i) have role = paired_words place bound kinds values i have.1 role
paired_words place bound (Pair ∷ kinds) (key ∷ []) i have role = absurd have
paired_words place bound (Pair ∷ kinds) (key ∷ x ∷ values) zero have role = both_null place bound key x have.1 have.2
paired_words place bound (Pair ∷ kinds) (key ∷ x ∷ values) (suc zero) have role = cc
paired_words place bound (Pair ∷ kinds) (key ∷ x ∷ values) (suc (suc i)) have role = paired_words place bound kinds values i have.3 role

pub pairs_whole : (setup : Setup) (nodes : List Node) (v : SeatView) → AreOfValid setup nodes → IsHeld nodes v → v.types ≡ setup.types → PairsAreWhole v
pairs_whole setup nodes v valid held types b i there role =
    let node = body_node nodes v b held.bodies there in
    let x : Node = node_at nodes node.0 in
    let typed : IsTyped setup (length nodes) x = All-get_or (IsTyped setup (length nodes)) nodes node.0 no_node node.1 (known_nodes setup nodes valid).typed in
    let kinds : kinds_of_type (kind_lists v.types) b.ty ≡ x.object.kinds =
    kinds_fit v.types b.ty ∙ ap (λ (ts : List ObjectType). declared_kinds ts b.ty) types ∙ ap (λ (c : Body). declared_kinds setup.types c.ty) node.3 ∙ sym typed.kinds_are
    in
    let both =
    paired_words (place_of nodes) (length nodes) x.object.kinds x.object.values i typed.values_are (ap (λ ks. role_at ks i) (sym kinds) ∙ role)
    in
    subst (λ j. (get_or b.fields i 0 ≡ 0) ↔ (get_or b.fields j 0 ≡ 0)) (sym (add-one i))
    (subst (λ (c : Body). (get_or c.fields i 0 ≡ 0) ↔ (get_or c.fields (suc i) 0 ≡ 0)) (sym node.3) both)
