-- The node that stands at a place, and its body.
use Rattle.std.proofs.Common.{◌≡◌, ℕ, Bool, true, false, not, List, refl, sym, ap, ◌∙◌}
use Rattle.gc_graph.specs.State.{Node, Life, node_at, is_there}
use Rattle.gc_graph.specs.State.Life.{Live, Dead, Gone}
use Rattle.gc_graph.specs.Pause.{is_dead_at}
use Rattle.marker_core.specs.Bodies.{IsPlace, holds}
use Rattle.marker_core.specs.declared.states.Body.{Body}
use Rattle.page_words.specs.Seat.{SeatView}
use Rattle.callback_table.specs.Bodies.{StandsAt, IsNodePlace}
use Rattle.nodes_in_words.specs.Nodes.{IsThere, place_of, body_of, bodies_of, IsHeld}
use Rattle.nodes_in_words.specs.Places.{BodiesAreJudged}
use Rattle.nodes_in_words.specs.NodePlaces.{node_body}

there_unless_gone : (l : Life) → (l ≡ Gone → ⊥) → is_there l ≡ true
there_unless_gone Live not = refl
there_unless_gone Dead not = refl
there_unless_gone Gone not = absurd (not refl)

pub stands_there : (nodes : List Node) (place n : ℕ) → StandsAt nodes place n → IsThere nodes n
stands_there nodes place n stands = there_unless_gone (node_at nodes n).life stands.not_gone

-- where a node stands there is a body
pub stands_body : (nodes : List Node) (v : SeatView) (place : ℕ) → v.bodies ≡ bodies_of nodes → IsNodePlace nodes place → IsPlace v.bodies place
stands_body nodes v place held (n, stands) = (body_of (place_of nodes) n (node_at nodes n), node_body nodes v n held (stands_there nodes place n stands), stands.place_is)

not_twice : (marked dead gone : Bool) → dead ≡ not marked → dead ≡ gone → marked ≡ not gone
not_twice true dead gone unmarked is = ap not (sym unmarked ∙ is)
not_twice false dead gone unmarked is = ap not (sym unmarked ∙ is)

-- once marking is over, the mark tells whether the node that stands at the place is dead
pub mark_tells : (nodes : List Node) (v : SeatView) (place n : ℕ) → IsHeld nodes v → BodiesAreJudged v → StandsAt nodes place n
    → holds v.marked place ≡ not (is_dead_at nodes n)
mark_tells nodes v place n held judged stands =
    let there : IsThere nodes n = stands_there nodes place n stands in
    let b : Body = body_of (place_of nodes) n (node_at nodes n) in
    ap (holds v.marked) (sym stands.place_is)
    ∙ not_twice (holds v.marked b.place) (holds v.dead b.place) (is_dead_at nodes n) (judged b (node_body nodes v n held.bodies there)) (held.dead n there)
