-- The nodes after a new one joined them.
use Rattle.std.proofs.Common.{◌≡◌, ℕ, ◌<◌, List, [], ◌∷◌, ◌++◌, length, refl, ap}
use Rattle.std.proofs.lemmas.List.{get_or_append_left, get_or_push}
use Rattle.gc_graph.specs.State.{Node, node_at, no_node, size_of}
use Rattle.atomic_pause.specs.Nodes.{place_of}
use Rattle.heap_objects.specs.Objects.{StaysAt}

pub node-old : (nodes : List Node) (x : Node) (n : ℕ) → n < length nodes → node_at (nodes ++ x ∷ []) n ≡ node_at nodes n
node-old nodes x n low = get_or_append_left nodes (x ∷ []) no_node n low

pub node-new : (nodes : List Node) (x : Node) → node_at (nodes ++ x ∷ []) (length nodes) ≡ x
node-new nodes x = get_or_push nodes x no_node (length nodes) refl

pub place-old : (nodes : List Node) (x : Node) (n : ℕ) → n < length nodes → place_of (nodes ++ x ∷ []) n ≡ place_of nodes n
place-old nodes x n low = ap (λ (y : Node). y.place) (node-old nodes x n low)

pub stays-old : (nodes : List Node) (x : Node) (n : ℕ) → n < length nodes → StaysAt nodes (nodes ++ x ∷ []) n
stays-old nodes x n low = (place-old nodes x n low, ap size_of (node-old nodes x n low))
