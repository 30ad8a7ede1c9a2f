-- The words hold the nodes after each change: a node made, a field written, a sweep, a pause.
use Rattle.std.proofs.Common.{◌≡◌, ℕ, ◌+◌, ◌-◌, ◌<◌, ◌≤◌, false, List, [], ◌∷◌, ◌++◌, length, map, replicate, refl, sym, ap, ◌∙◌, inl, inr, arith}
use Rattle.std.specs.List.{All}
use Rattle.std.proofs.lemmas.Bool.{cases_lt}
use Rattle.std.proofs.lemmas.List.{length_push, length-map, length-replicate}
use Rattle.std.proofs.lemmas.List.Elements.{All-weaker}
use Rattle.gc_graph.specs.declared.kind.Kind.{Kind}
use Rattle.gc_graph.specs.declared.kind.Value.{Value}
use Rattle.gc_graph.specs.declared.kind.Value.TheVariants.{Null, Ref, Word}
use Rattle.gc_graph.specs.State.{Setup, ObjectType, Node, type_at, node_at, is_there, is_dead, size_of}
use Rattle.gc_graph.specs.Fields.{field_words, new_node, size_of_type}
use Rattle.type_table.specs.Types.{declared_kinds}
use Rattle.marker_core.specs.Bodies.{kinds_of_type, holds, field_word_count}
use Rattle.marker_core.specs.declared.states.Body.{Body}
use Rattle.page_words.specs.Roles.{kind_lists, kinds_fit, word_count_is}
use Rattle.page_words.specs.Seat.{SeatView, IsView, rewritten}
use Rattle.gc_graph.specs.Placement.{extents_of}
use Rattle.page_space.specs.Occupying.{Occupies, IsNewNumber, least_size, new_body}
use Rattle.page_space.specs.Space.{extents_of_bodies}
use Rattle.atomic_pause.specs.Nodes.{place_of, word_of, body_of, bodies_of, IsThere, IsHeld}
use Rattle.atomic_pause.specs.TypedNodes.{AreKnown, NamesBelow, new_words}
use Rattle.atomic_pause.specs.NodePlaces.{body_node}
use Rattle.atomic_pause.specs.NodeBodies.{bodies-push, extents-bodies}
use Rattle.atomic_pause.specs.NodeChanges.{AgreeOn, AgreeIn, bodies-places, bodies-same}
use Rattle.heap_objects.specs.FieldNodes.{with_field, place-field, life-field}
use Rattle.heap_objects.proofs.FieldBodies.{bodies_stored}
use Rattle.heap_objects.specs.NewNodes.{node-old, node-new, place-old}
use Rattle.gc_graph.specs.NodeNumbers.{there_below}

-- ---- a new node

agree_below : (f g : ℕ → ℕ) (bound : ℕ) (v : Value) → ((n : ℕ) → n < bound → f n ≡ g n) → NamesBelow bound v → AgreeOn f g v
agree_below f g bound Null same below = tt
agree_below f g bound (Ref n) same below = same n below
agree_below f g bound (Word w) same below = tt

body_is_new : (setup : Setup) (f : ℕ → ℕ) (k t extra place : ℕ) → body_of f k (new_node setup t extra place) ≡ new_body place t (size_of_type setup t extra) k
body_is_new setup f k t extra place =
    let x : Node = new_node setup t extra place in
    let count : ℕ = field_words (type_at setup t).kinds + extra in
    let words : map (word_of f) x.object.values ≡ replicate count 0 = new_words setup f t extra place in
    let size : size_of x ≡ 2 + count = omega (arith, ap length words, length-map x.object.values (word_of f), length-replicate {A = ℕ} count 0) in
    let rest : count ≡ 2 + count - 2 = omega arith in
    ap (λ n. (let b : Body = record { place = place; ty = t; size = n; serial = k; fields = map (word_of f) x.object.values } in b)) size
    ∙ ap (λ ws. (let b : Body = record { place = place; ty = t; size = 2 + count; serial = k; fields = ws } in b)) (words ∙ ap (λ n. replicate n 0) rest)

-- a size that the type tells has room for the type's fields
pub room_for_fields : (setup : Setup) (v : SeatView) (t extra : ℕ) → v.types ≡ setup.types → least_size v t ≤ size_of_type setup t extra
room_for_fields setup v t extra same =
    let kinds : List Kind = kinds_of_type (kind_lists v.types) t in
    let told : kinds ≡ (type_at setup t).kinds = kinds_fit v.types t ∙ ap (λ (types : List ObjectType). declared_kinds types t) same in
    let words : field_word_count kinds ≡ field_words (type_at setup t).kinds = word_count_is kinds ∙ ap field_words told in
    omega (arith, words)

-- the number after those of all nodes is no object's
pub next_is_new : (nodes : List Node) (v : SeatView) → v.bodies ≡ bodies_of nodes → IsNewNumber v (length nodes)
next_is_new nodes v held b there same =
    let node = body_node nodes v b held there in
    omega (arith, node.1, same, ap (λ (c : Body). c.serial) node.3)

pub held_made : (setup : Setup) (nodes : List Node) (v new : SeatView) (t extra place : ℕ) → AreKnown setup nodes → holds v.dead place ≡ false → IsHeld nodes v
    → Occupies v new (new_body place t (size_of_type setup t extra) (length nodes)) → IsHeld (nodes ++ new_node setup t extra place ∷ []) new
held_made setup nodes v new t extra place known alive held occupies =
    let x : Node = new_node setup t extra place in
    let after : List Node = nodes ++ x ∷ [] in
    let number : 0 + length nodes ≡ length nodes = omega arith in
    let agree : All (AgreeIn (place_of after) (place_of nodes)) nodes =
    All-weaker (λ (y : Node). All (NamesBelow (length nodes)) y.object.values) (AgreeIn (place_of after) (place_of nodes))
    (λ (y : Node) below. All-weaker (NamesBelow (length nodes)) (AgreeOn (place_of after) (place_of nodes))
    (λ u b. agree_below (place_of after) (place_of nodes) (length nodes) u (place-old nodes x) b) y.object.values below) nodes known.below in
    let bodies : bodies_of after ≡ bodies_of nodes ++ new_body place t (size_of_type setup t extra) (length nodes) ∷ [] =
    bodies-push (place_of after) 0 nodes x refl
    ∙ ap (λ bs. bs ++ body_of (place_of after) (0 + length nodes) x ∷ []) (bodies-places (place_of after) (place_of nodes) 0 nodes agree)
    ∙ ap (λ b. bodies_of nodes ++ b ∷ []) (ap (λ k. body_of (place_of after) k x) number ∙ body_is_new setup (place_of after) (length nodes) t extra place) in
    record {
      bodies = occupies.bodies ∙ ap (λ bs. bs ++ new_body place t (size_of_type setup t extra) (length nodes) ∷ []) held.bodies ∙ sym bodies;
      dead = λ n there. elim (cases_lt n (length nodes)) [
        | inl low ↦
            (let same : (node_at after n).life ≡ (node_at nodes n).life = ap (λ (y : Node). y.life) (node-old nodes x n low) in
            ap (λ l. holds l (place_of after n)) occupies.dead ∙ ap (holds v.dead) (place-old nodes x n low) ∙ held.dead n (sym (ap is_there same) ∙ there) ∙ sym (ap is_dead same))
        | inr high ↦
            (let last : n ≡ length nodes = omega (arith, there_below after n there, length_push nodes x, high) in
            let here : place_of after n ≡ place = ap (place_of after) last ∙ ap (λ (y : Node). y.place) (node-new nodes x) in
            ap (λ l. holds l (place_of after n)) occupies.dead ∙ ap (holds v.dead) here ∙ alive
            ∙ sym (ap (λ k. is_dead (node_at after k).life) last ∙ ap (λ (y : Node). is_dead y.life) (node-new nodes x)))
      ];
    }

-- the words that objects have are those of the nodes
pub extents_held : (nodes : List Node) (v : SeatView) → IsHeld nodes v → extents_of_bodies v.bodies ≡ extents_of nodes
extents_held nodes v held = ap extents_of_bodies held.bodies ∙ extents-bodies (place_of nodes) 0 nodes

-- ---- a field

pub held_stored : (nodes : List Node) (v : SeatView) (a n f : ℕ) (x : Value) → IsView v → IsHeld nodes v → IsThere nodes n
    → a ≡ place_of nodes n + 2 + f → f < length (node_at nodes n).object.values → IsHeld (with_field nodes n f x) (rewritten v a (word_of (place_of nodes) x))
held_stored nodes v a n f x view held there at low =
    let new : List Node = with_field nodes n f x in
    let place : (m : ℕ) → place_of new m ≡ place_of nodes m = place-field nodes n f x in
    let life : (m : ℕ) → (node_at new m).life ≡ (node_at nodes m).life = life-field nodes n f x in
    record {
      bodies = bodies_stored nodes v a n f x view held.bodies there at low ∙ bodies-same (place_of nodes) (place_of new) new (λ m. sym (place m));
      dead = λ m present. ap (holds v.dead) (place m) ∙ held.dead m (sym (ap is_there (life m)) ∙ present) ∙ sym (ap is_dead (life m));
    }
