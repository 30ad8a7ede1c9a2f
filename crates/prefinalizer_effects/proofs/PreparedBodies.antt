-- What is asked of the words holds of those of prepared nodes.
use Rattle.std.proofs.Common.{◌≡◌, ℕ, false, List, length, get_or, refl, sym, ap, ◌∙◌, subst, inl, inr, arith}
use Rattle.std.proofs.lemmas.List.Elements.{All-get_or}
use Rattle.gc_graph.specs.declared.kind.Kind.TheVariants.{Plain}
use Rattle.gc_graph.specs.declared.kind.Value.{Value}
use Rattle.gc_graph.specs.declared.kind.Value.TheVariants.{Null, Ref, Word}
use Rattle.gc_graph.specs.State.{Setup, ObjectType, Node, node_at, no_node}
use Rattle.gc_graph.specs.Fields.{field_words, is_plain}
use Rattle.gc_graph.specs.Valid.{IsTyped, IsReferenceBelow}
use Rattle.gc_graph.specs.ActionLaw.{AreTyped}
use Rattle.type_table.specs.Types.{declared_kinds}
use Rattle.type_table.specs.Layouts.{kinds_of_words}
use Rattle.marker_core.specs.Bodies.{IsReference}
use Rattle.marker_core.specs.declared.states.Body.{Body}
use Rattle.page_words.specs.Seat.{SeatView}
use Rattle.prefinalizer_effects.specs.Acting as words
use Rattle.nodes_in_words.specs.Nodes.{place_of, word_of, body_of, bodies_of}
use Rattle.prefinalizer_effects.specs.Prepared.{NamesThere, AllNameThere}
use Rattle.nodes_in_words.specs.ReferenceWords.{reference_word}
use Rattle.nodes_in_words.specs.NodePlaces.{node_body, body_node}

there_reference : (nodes : List Node) (v : SeatView) (bound : ℕ) (x : Value) → v.bodies ≡ bodies_of nodes → NamesThere nodes x → IsReferenceBelow bound x
    → IsReference v.bodies (word_of (place_of nodes) x)
there_reference nodes v bound Null held there is = inl refl
there_reference nodes v bound (Ref n) held there is = inr (body_of (place_of nodes) n (node_at nodes n), node_body nodes v n held there, refl)
there_reference nodes v bound (Word w) held there is = absurd is

pub bodies_typed : (setup : Setup) (nodes : List Node) (v : SeatView) → v.types ≡ setup.types → v.bodies ≡ bodies_of nodes → AreTyped setup nodes → words.BodiesAreTyped v
bodies_typed setup nodes v types held typed b there =
    let node = body_node nodes v b held there in
    let t : IsTyped setup (length nodes) (node_at nodes node.0) = All-get_or (IsTyped setup (length nodes)) nodes node.0 no_node node.1 typed in
    let x : Node = node_at nodes node.0 in
    let kinds : declared_kinds v.types b.ty ≡ x.object.kinds =
    ap (λ (ts : List ObjectType). declared_kinds ts b.ty) types ∙ ap (λ (c : Body). declared_kinds setup.types c.ty) node.3 ∙ sym t.kinds_are in
    record {
      known = omega (arith, t.ty, ap (λ (c : Body). c.ty) node.3, ap length types);
      whole = omega (arith, t.count, ap (λ (c : Body). c.size) node.3, ap field_words kinds);
    }

pub bodies_linked : (setup : Setup) (nodes : List Node) (v : SeatView) → v.types ≡ setup.types → v.bodies ≡ bodies_of nodes → AreTyped setup nodes → AllNameThere nodes
    → words.AreLinked v
bodies_linked setup nodes v types held typed named b i there told =
    let node = body_node nodes v b held there in
    let x : Node = node_at nodes node.0 in
    let t : IsTyped setup (length nodes) x = All-get_or (IsTyped setup (length nodes)) nodes node.0 no_node node.1 typed in
    let kind : is_plain (get_or (kinds_of_words x.object.kinds) i Plain) ≡ false =
    ap (λ ks. is_plain (get_or (kinds_of_words ks) i Plain))
    (t.kinds_are ∙ sym (ap (λ (ts : List ObjectType). declared_kinds ts b.ty) types ∙ ap (λ (c : Body). declared_kinds setup.types c.ty) node.3)) ∙ ap is_plain told in
    subst (IsReference v.bodies) (sym (ap (λ (c : Body). get_or c.fields i 0) node.3))
    (reference_word (place_of nodes) v (length nodes) (NamesThere nodes) (λ y is below. there_reference nodes v (length nodes) y held is below)
    x.object.kinds x.object.values i t.values_are (named node.0 node.2) kind)
