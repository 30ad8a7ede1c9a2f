-- The words of a valid state's nodes: a body that isn't dead names no dead one.
use Rattle.std.proofs.Common.{◌≡◌, ℕ, true, false, not, List, length, get_or, filter, refl, sym, ap, ◌∙◌, subst, inl, inr, arith}
use Rattle.std.specs.List.{Contains}
use Rattle.std.proofs.lemmas.Bool.{true≢false, not-true, not_from_false}
use Rattle.std.proofs.lemmas.List.Elements.{All-get_or}
use Rattle.gc_graph.specs.declared.kind.Kind.TheVariants.{Plain}
use Rattle.gc_graph.specs.declared.kind.Value.{Value}
use Rattle.gc_graph.specs.declared.kind.Value.TheVariants.{Null, Ref, Word}
use Rattle.gc_graph.specs.State.{Setup, ObjectType, Node, node_at, no_node, is_dead, IsLive}
use Rattle.gc_graph.specs.Fields.{is_plain}
use Rattle.gc_graph.specs.Members.{has_passed, stays_in}
use Rattle.gc_graph.specs.Valid.{IsTyped, IsReferenceBelow, NamesLive}
use Rattle.type_table.specs.Types.{declared_kinds}
use Rattle.type_table.specs.Layouts.{kinds_of_words}
use Rattle.marker_core.specs.Bodies.{IsReference, holds}
use Rattle.marker_core.specs.declared.states.Body.{Body}
use Rattle.page_words.specs.Bodies.{kind_in, is_reference_word}
use Rattle.page_words.specs.Seat.{with_bodies, SeatView, IsUnnamed}
use Rattle.nodes_in_words.specs.Nodes.{place_of, word_of, body_of, IsThere, IsHeld, AreOfValid}
use Rattle.nodes_in_words.specs.NodePlaces.{node_body, body_node, live_is_there}
use Rattle.nodes_in_words.specs.NodeLives.{live_if_there}
use Rattle.nodes_in_words.specs.TypedNodes.{AreKnown, known_nodes}
use Rattle.nodes_in_words.specs.ReferenceWords.{reference_word}

-- the view of the bodies that aren't dead
abbrev living : SeatView → SeatView
living v = with_bodies v (filter (λ b. not (holds v.dead b.place)) v.bodies)

live_body : (nodes : List Node) (v : SeatView) (n : ℕ) → IsHeld nodes v → IsLive nodes n → Contains (living v).bodies (body_of (place_of nodes) n (node_at nodes n))
live_body nodes v n held live =
    let there : IsThere nodes n = live_is_there nodes n live in
    let alive : holds v.dead (place_of nodes n) ≡ false = held.dead n there ∙ ap is_dead live in
    stays_in (λ (b : Body). not (holds v.dead b.place)) v.bodies (body_of (place_of nodes) n (node_at nodes n)) (node_body nodes v n held.bodies there)
    (not_from_false (holds v.dead (place_of nodes n)) alive)

-- a reference to a live node is one to a body that isn't dead
living_reference : (nodes : List Node) (v : SeatView) (bound : ℕ) (x : Value) → IsHeld nodes v → NamesLive nodes x → IsReferenceBelow bound x
    → IsReference (living v).bodies (word_of (place_of nodes) x)
living_reference nodes v bound Null held live is = inl refl
living_reference nodes v bound (Ref n) held live is = inr (body_of (place_of nodes) n (node_at nodes n), live_body nodes v n held live, refl)
living_reference nodes v bound (Word w) held live is = absurd is

-- the node of a body that isn't dead is live
live_node : (nodes : List Node) (v : SeatView) (n : ℕ) → IsHeld nodes v → IsThere nodes n → holds v.dead (place_of nodes n) ≡ false → IsLive nodes n
live_node nodes v n held there alive =
    live_if_there (node_at nodes n).life there (λ dead. true≢false (sym (held.dead n there ∙ ap is_dead dead) ∙ alive))

-- living bodies name living bodies
living_names_living : (setup : Setup) (nodes : List Node) (v : SeatView) (b : Body) (i : ℕ) → AreKnown setup nodes → IsHeld nodes v → v.types ≡ setup.types
    → Contains v.bodies b → holds v.dead b.place ≡ false → is_reference_word v.types b i ≡ true → IsReference (living v).bodies (get_or b.fields i 0)
living_names_living setup nodes v b i known held types there alive reference =
    let node = body_node nodes v b held.bodies there in
    let x : Node = node_at nodes node.0 in
    let live : IsLive nodes node.0 =
    live_node nodes v node.0 held node.2 (sym (ap (λ (c : Body). holds v.dead c.place) node.3) ∙ alive) in
    let typed : IsTyped setup (length nodes) x = All-get_or (IsTyped setup (length nodes)) nodes node.0 no_node node.1 known.typed in
    let kind : is_plain (get_or (kinds_of_words x.object.kinds) i Plain) ≡ false =
    ap (λ ks. is_plain (get_or (kinds_of_words ks) i Plain))
    (typed.kinds_are ∙ sym (ap (λ (ts : List ObjectType). declared_kinds ts b.ty) types ∙ ap (λ (c : Body). declared_kinds setup.types c.ty) node.3))
    ∙ not-true (is_plain (kind_in v.types b i)) reference in
    subst (IsReference (living v).bodies) (sym (ap (λ (c : Body). get_or c.fields i 0) node.3))
    (reference_word (place_of nodes) (living v) (length nodes) (NamesLive nodes)
    (λ y named below. living_reference nodes v (length nodes) y held named below) x.object.kinds x.object.values i typed.values_are
    (known.references node.0 live) kind)

pub dead_unnamed : (setup : Setup) (nodes : List Node) (v : SeatView) → AreOfValid setup nodes → IsHeld nodes v → v.types ≡ setup.types
    → (a : ℕ) → holds v.dead a ≡ true → IsUnnamed v.types v.bodies v.dead a
dead_unnamed setup nodes v valid held types a dead b i there alive low reference named =
    elim (living_names_living setup nodes v b i (known_nodes setup nodes valid) held types there alive reference) [
      | inl null ↦ omega (arith, null, named)
      | inr names ↦
          (let other : holds v.dead names.0.place ≡ false =
          not-true (holds v.dead names.0.place) (has_passed (λ (c : Body). not (holds v.dead c.place)) v.bodies names.0 names.1) in
          let same : names.0.place ≡ a = omega (arith, names.2, named) in
          true≢false (sym dead ∙ ap (holds v.dead) (sym same) ∙ other))
    ]
