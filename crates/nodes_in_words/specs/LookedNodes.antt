-- Nodes are held where headers were looked at. Lemmas that the crates above cite too, since a crate's proofs/ can't be cited
-- from another.
use Rattle.std.proofs.Common.{ap, ◌∙◌, List}
use Rattle.gc_graph.specs.State.{Node}
use Rattle.marker_core.specs.Bodies.{holds}
use Rattle.page_words.specs.Seat.{SeatView, OnlyLooked}
use Rattle.nodes_in_words.specs.Nodes.{IsHeld, place_of}

-- words that hold the nodes still do where headers were looked at
pub held_looked : (nodes : List Node) (v w : SeatView) → OnlyLooked v w → IsHeld nodes v → IsHeld nodes w
held_looked nodes v w same held = record {
  bodies = ap (λ (x : SeatView). x.bodies) same ∙ held.bodies;
  dead = λ n there. ap (λ (x : SeatView). holds x.dead (place_of nodes n)) same ∙ held.dead n there;
}
