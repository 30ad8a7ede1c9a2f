-- The places that slots hold, and the nodes whose places are marked.
use Rattle.std.specs.Prelude.{◌≡◌, ℕ, Bool, ◌&&◌, not, List, map, Option, option_map, Contains}
use Rattle.gc_graph.specs.State.{Node, is_live}
use Rattle.marker_core.specs.declared.states.Body.{Body}
use Rattle.marker_core.specs.Bodies.{holds}
use Rattle.page_words.specs.Seat.{SeatView}
use Rattle.nodes_in_words.specs.Nodes.{place_of}

-- the places of what the slots name
abbrev pub places_of_slots : List Node → List (Option ℕ) → List (Option ℕ)
places_of_slots nodes slots = map (λ slot. option_map (place_of nodes) slot) slots

-- the live nodes whose places are marked
abbrev pub kept_of : (ℕ → Bool) → List Node → List Bool
kept_of marked nodes = map (λ node. is_live node.life && marked node.place) nodes

-- each body is dead or marked, and not both
abbrev pub BodiesAreJudged : SeatView → Type 0
BodiesAreJudged v = (b : Body) → Contains v.bodies b → holds v.dead b.place ≡ not (holds v.marked b.place)
