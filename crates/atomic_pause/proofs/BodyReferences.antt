-- The reference words of the bodies of live nodes are null or refer to bodies.
use Rattle.std.proofs.Common.{◌≡◌, ℕ, ◌<◌, ◌≤◌, false, List, [], length, get_or, refl, sym, ap, ◌∙◌, subst, inl, inr, arith}
use Rattle.std.specs.List.{Contains}
use Rattle.std.proofs.lemmas.List.{length-map}
use Rattle.std.proofs.lemmas.List.Elements.{All-get_or}
use Rattle.gc_graph.specs.declared.kind.Kind.{Kind}
use Rattle.gc_graph.specs.declared.kind.Kind.TheVariants.{Plain}
use Rattle.gc_graph.specs.declared.kind.Value.{Value}
use Rattle.gc_graph.specs.declared.kind.Value.TheVariants.{Null, Ref, Word}
use Rattle.gc_graph.specs.State.{Setup, ObjectType, Node, node_at, type_at, no_node, IsLive, IsDead}
use Rattle.gc_graph.specs.Fields.{field_words, is_plain}
use Rattle.gc_graph.specs.Valid.{IsTyped, IsReferenceBelow, NamesLive}
use Rattle.type_table.specs.Types.{declared_kinds}
use Rattle.type_table.specs.Layouts.{kinds_of_words}
use Rattle.marker_core.specs.Bodies.{IsReference}
use Rattle.marker_core.specs.declared.states.Body.{Body}
use Rattle.page_words.specs.Bodies.{kind_in}
use Rattle.page_words.specs.Seat.{SeatView}
use Rattle.weak_clearing.specs.Clearing.{MarkedHaveReferencesOf}
use Rattle.prefinalizer_effects.specs.Nodes.{place_of, word_of, body_of, bodies_of, IsHeld, AreOfValid}
use Rattle.prefinalizer_effects.specs.NodePlaces.{node_body, body_node, live_is_there}
use Rattle.prefinalizer_effects.specs.NodeLives.{live_if_there, none_dead}
use Rattle.prefinalizer_effects.specs.TypedNodes.{AreKnown, known_nodes}
use Rattle.prefinalizer_effects.specs.ReferenceWords.{reference_word}
use Rattle.atomic_pause.specs.Marking.{MarksReachable}

-- a reference to a live node is one to its body
live_reference : (nodes : List Node) (v : SeatView) (bound : ℕ) (x : Value) → v.bodies ≡ bodies_of nodes → NamesLive nodes x → IsReferenceBelow bound x
    → IsReference v.bodies (word_of (place_of nodes) x)
live_reference nodes v bound Null held live is = inl refl
live_reference nodes v bound (Ref n) held live is = inr (body_of (place_of nodes) n (node_at nodes n), node_body nodes v n held (live_is_there nodes n live), refl)
live_reference nodes v bound (Word w) held live is = absurd is

-- no node is dead, and these words hold the nodes
pub record AreAlive (setup : Setup) (nodes : List Node) (v : SeatView) : Type 0 where
  pub known : AreKnown setup nodes
  pub held : v.bodies ≡ bodies_of nodes
  pub alive : (n : ℕ) → IsDead nodes n → ⊥

-- marking moves no object, and no node dies before it is over
pub alive_marked : (setup : Setup) (nodes : List Node) (root may : ℕ → Type 0) (v new : SeatView) → AreOfValid setup nodes → IsHeld nodes v → v.dead ≡ []
    → MarksReachable setup.types root may v new → AreAlive setup nodes new
alive_marked setup nodes root may v new valid held none marks = record {
  known = known_nodes setup nodes valid;
  held = marks.bodies ∙ held.bodies;
  alive = none_dead nodes v held none;
}

-- each reference word of a body is null or names a body
body_reference : (setup : Setup) (nodes : List Node) (v : SeatView) (b : Body) (i : ℕ) → AreAlive setup nodes v → Contains v.bodies b
    → is_plain (kind_in setup.types b i) ≡ false → IsReference v.bodies (get_or b.fields i 0)
body_reference setup nodes v b i is there told =
    let node = body_node nodes v b is.held there in
    let x : Node = node_at nodes node.0 in
    let live : IsLive nodes node.0 = live_if_there x.life node.2 (is.alive node.0) in
    let typed : IsTyped setup (length nodes) x = All-get_or (IsTyped setup (length nodes)) nodes node.0 no_node node.1 is.known.typed in
    let kind : is_plain (get_or (kinds_of_words x.object.kinds) i Plain) ≡ false =
    ap (λ ks. is_plain (get_or (kinds_of_words ks) i Plain)) (typed.kinds_are ∙ sym (ap (λ (c : Body). declared_kinds setup.types c.ty) node.3)) ∙ told in
    subst (IsReference v.bodies) (sym (ap (λ (c : Body). get_or c.fields i 0) node.3))
    (reference_word (place_of nodes) v (length nodes) (NamesLive nodes) (λ y named below. live_reference nodes v (length nodes) y is.held named below)
    x.object.kinds x.object.values i typed.values_are (is.known.references node.0 live) kind)

-- ---- what weak clearing asks of the bodies

body_typed : (setup : Setup) (nodes : List Node) (v : SeatView) (b : Body) → AreAlive setup nodes v → Contains v.bodies b → b.ty < length setup.types
body_typed setup nodes v b is there =
    let node = body_node nodes v b is.held there in
    let typed : IsTyped setup (length nodes) (node_at nodes node.0) = All-get_or (IsTyped setup (length nodes)) nodes node.0 no_node node.1 is.known.typed in
    omega (arith, typed.ty, ap (λ (c : Body). c.ty) node.3)

body_whole : (setup : Setup) (nodes : List Node) (v : SeatView) (b : Body) → AreAlive setup nodes v → Contains v.bodies b
    → field_words (declared_kinds setup.types b.ty) ≤ length b.fields
body_whole setup nodes v b is there =
    let node = body_node nodes v b is.held there in
    let x : Node = node_at nodes node.0 in
    let typed : IsTyped setup (length nodes) x = All-get_or (IsTyped setup (length nodes)) nodes node.0 no_node node.1 is.known.typed in
    let kinds : field_words (type_at setup b.ty).kinds ≡ field_words x.object.kinds =
    ap (λ (c : Body). field_words (type_at setup c.ty).kinds) node.3 ∙ ap field_words (sym typed.kinds_are) in
    omega (arith, typed.count, kinds, ap (λ (c : Body). length c.fields) node.3, length-map x.object.values (word_of (place_of nodes)))

-- each word of fields of a kind that holds references is null or names a body
pub marked_references : (kind : Kind) (setup : Setup) (nodes : List Node) (v : SeatView) → is_plain kind ≡ false → v.types ≡ setup.types
    → AreAlive setup nodes v → MarkedHaveReferencesOf kind v
marked_references kind setup nodes v reference types is b there marked = record {
  typed = subst (λ (ts : List ObjectType). b.ty < length ts) (sym types) (body_typed setup nodes v b is there);
  whole = subst (λ (ts : List ObjectType). field_words (declared_kinds ts b.ty) ≤ length b.fields) (sym types) (body_whole setup nodes v b is there);
  named = λ i told.
      body_reference setup nodes v b i is there (ap is_plain (sym (ap (λ (ts : List ObjectType). kind_in ts b i) types) ∙ told) ∙ reference);
}
