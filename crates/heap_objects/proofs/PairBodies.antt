-- The nodes and the bodies once both words of a pair were written.
use Rattle.std.proofs.Common.{◌≡◌, ℕ, ◌+◌, ◌<◌, List, length, set, map, refl, sym, ap, ◌∙◌, subst, arith}
use Rattle.std.proofs.lemmas.List.{length-set, get_or-set_same, get_or-set_other, set-set, set_comm}
use Rattle.gc_graph.specs.declared.kind.Value.{Value}
use Rattle.gc_graph.specs.State.{Node, node_at, no_node, is_there, is_dead}
use Rattle.gc_graph.specs.Fields.{with_value}
use Rattle.marker_core.specs.Bodies.{with_word, holds}
use Rattle.page_words.specs.Seat.{SeatView, IsView, rewritten}
use Rattle.atomic_pause.specs.Nodes.{place_of, word_of, bodies_from, bodies_of, IsThere, IsHeld}
use Rattle.atomic_pause.specs.NodeChanges.{bodies-same, place_set, life_set}
use Rattle.heap_objects.specs.FieldNodes.{with_field, place-field, life-field, pair_node, with_pair}
use Rattle.heap_objects.proofs.FieldBodies.{IsElsewhere, bodies-field, only_there, bodies_stored}
use Rattle.gc_graph.specs.NodeNumbers.{there_below}

-- ---- the nodes

-- the value is written first, and then the key
one_then_other : (nodes : List Node) (n i : ℕ) (key value : Value) → n < length nodes → with_field (with_field nodes n (i + 1) value) n i key ≡ with_pair nodes n i key value
one_then_other nodes n i key value low =
    let node : Node = node_at nodes n in
    let half : Node = with_value node (i + 1) value in
    let apart : i + 1 ≡ i → ⊥ = λ e. omega arith in
    ap (λ (y : Node). set (set nodes n half) n (with_value y i key)) (get_or-set_same nodes n half no_node low)
    ∙ set-set nodes n half (with_value half i key)
    ∙ ap (λ values. set nodes n (record node { object = record node.object { values = values } })) (set_comm node.object.values (i + 1) i value key apart)

-- ---- the bodies

value_elsewhere : (nodes : List Node) (v : SeatView) (a n i : ℕ) (value : Value) (m : ℕ) → IsView v → v.bodies ≡ bodies_of nodes → IsThere nodes n → a ≡ place_of nodes n + 2 + i
    → i + 1 < length (node_at nodes n).object.values → IsThere (with_field nodes n (i + 1) value) m → (m ≡ n → ⊥) → IsElsewhere a (node_at (with_field nodes n (i + 1) value) m)
value_elsewhere nodes v a n i value m view held there at low present other =
    let present_before : IsThere nodes m = sym (ap is_there (life-field nodes n (i + 1) value m)) ∙ present in
    subst (IsElsewhere a) (sym (get_or-set_other nodes n m (with_value (node_at nodes n) (i + 1) value) no_node other))
    (only_there nodes v a n i m view held there at (omega arith) present_before other)

bodies_paired : (nodes : List Node) (v : SeatView) (a b n i : ℕ) (key value : Value) → IsView v → v.bodies ≡ bodies_of nodes → IsThere nodes n → a ≡ place_of nodes n + 2 + i
    → b ≡ place_of nodes n + 2 + (i + 1) → i + 1 < length (node_at nodes n).object.values
    → map (with_word a (word_of (place_of nodes) key)) (map (with_word b (word_of (place_of nodes) value)) v.bodies) ≡ bodies_from (place_of nodes) 0 (with_pair nodes n i key value)
bodies_paired nodes v a b n i key value view held there at next low =
    let half : List Node = with_field nodes n (i + 1) value in
    let known : n < length nodes = there_below nodes n there in
    let node : node_at half n ≡ with_value (node_at nodes n) (i + 1) value = get_or-set_same nodes n (with_value (node_at nodes n) (i + 1) value) no_node known in
    let there_half : IsThere half n = ap is_there (life-field nodes n (i + 1) value n) ∙ there in
    let place : place_of half n ≡ place_of nodes n = place-field nodes n (i + 1) value n in
    let count : length (node_at half n).object.values ≡ length (node_at nodes n).object.values =
    ap (λ (y : Node). length y.object.values) node ∙ length-set (node_at nodes n).object.values (i + 1) value in
    ap (map (with_word a (word_of (place_of nodes) key))) (bodies_stored nodes v b n (i + 1) value view held there next low)
    ∙ bodies-field (place_of nodes) 0 a n i key half there_half (omega (arith, place)) (omega (arith, count))
    (λ m present other. value_elsewhere nodes v a n i value m view held there at low present other)
    ∙ ap (bodies_from (place_of nodes) 0) (one_then_other nodes n i key value known)

-- the words hold the nodes once the value was rewritten, and then the key
pub held_paired : (nodes : List Node) (v : SeatView) (a b n i : ℕ) (key value : Value) → IsView v → IsHeld nodes v → IsThere nodes n → a ≡ place_of nodes n + 2 + i
    → b ≡ place_of nodes n + 2 + (i + 1) → i + 1 < length (node_at nodes n).object.values
    → IsHeld (with_pair nodes n i key value) (rewritten (rewritten v b (word_of (place_of nodes) value)) a (word_of (place_of nodes) key))
held_paired nodes v a b n i key value view held there at next low =
    let new : List Node = with_pair nodes n i key value in
    let y : Node = pair_node (node_at nodes n) i key value in
    let place : (m : ℕ) → place_of new m ≡ place_of nodes m = λ m. place_set nodes n y m refl in
    let life : (m : ℕ) → (node_at new m).life ≡ (node_at nodes m).life = λ m. life_set nodes n y m refl in
    record {
      bodies = bodies_paired nodes v a b n i key value view held.bodies there at next low ∙ bodies-same (place_of nodes) (place_of new) new (λ m. sym (place m));
      dead = λ m present. ap (holds v.dead) (place m) ∙ held.dead m (sym (ap is_there (life m)) ∙ present) ∙ sym (ap is_dead (life m));
    }
