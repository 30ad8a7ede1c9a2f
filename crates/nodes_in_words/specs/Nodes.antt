-- Which body each node has in the words.
use Rattle.std.specs.Prelude.{◌≡◌, ℕ, ◌-◌, ◌^◌, suc, List, [], ◌∷◌, map, if◌then◌else◌}
use Rattle.gc_graph.specs.declared.kind.Value.{Value}
use Rattle.gc_graph.specs.declared.kind.Value.TheVariants.{Null, Ref, Word}
use Rattle.gc_graph.specs.State.{Setup, State, Node, node_at, is_there, is_dead, size_of}
pub use Rattle.gc_graph.specs.Valid.{IsThere}
use Rattle.gc_graph.specs.Valid.{IsValid}
use Rattle.object_headers.specs.Offsets.{reference_to}
use Rattle.marker_core.specs.declared.states.Body.{Body}
use Rattle.marker_core.specs.Bodies.{holds}
use Rattle.page_words.specs.Seat.{SeatView}

-- how many nodes can be made: a number has 32 bits, and so has the count of those that were given out
abbrev pub most_nodes : ℕ
most_nodes = 2 ^ 32 - 1

-- where the node with this number lies
abbrev pub place_of : List Node → ℕ → ℕ
place_of nodes n = (node_at nodes n).place

-- the word of a value, where the nodes have these places: a reference is one more than the place
abbrev pub word_of : (ℕ → ℕ) → Value → ℕ
word_of place Null = 0
word_of place (Ref n) = reference_to (place n)
word_of place (Word w) = w

-- the body of a node: its serial number is the node's number
abbrev pub body_of : (ℕ → ℕ) → ℕ → Node → Body
body_of place n node =
    record { place = node.place; ty = node.object.ty; size = size_of node; serial = n; fields = map (word_of place) node.object.values }

-- the bodies of these nodes, the first of which has this number
abbrev pub bodies_from : (ℕ → ℕ) → ℕ → List Node → List Body
bodies_from place n [] = []
bodies_from place n (node ∷ nodes) =
    if is_there node.life then body_of place n node ∷ bodies_from place (suc n) nodes else bodies_from place (suc n) nodes

-- the bodies of the nodes that are there, in the order of their numbers
abbrev pub bodies_of : List Node → List Body
bodies_of nodes = bodies_from (place_of nodes) 0 nodes

-- the words hold the nodes: the bodies are theirs, and the dead ones are the dead nodes'
pub record IsHeld (nodes : List Node) (v : SeatView) : Type 0 where
  pub bodies : v.bodies ≡ bodies_of nodes
  pub dead : (n : ℕ) → IsThere nodes n → holds v.dead (place_of nodes n) ≡ is_dead (node_at nodes n).life

-- the nodes of some valid state
abbrev pub AreOfValid : Setup → List Node → Type 0
AreOfValid setup nodes = (s : State) × IsValid setup s × (s.nodes ≡ nodes)
