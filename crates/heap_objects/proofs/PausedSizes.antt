-- A pause leaves each live node its size, as it leaves its body.
use Rattle.std.proofs.Common.{◌≡◌, ℕ, Bool, List, sym, ap, ◌∙◌, subst}
use Rattle.std.specs.List.{Contains}
use Rattle.gc_graph.specs.State.{Node, node_at, size_of, is_there, IsLive}
use Rattle.gc_graph.specs.State.Life.{Live}
use Rattle.gc_graph.specs.Graph.{has}
use Rattle.gc_graph.specs.ActionLaw.{HaveStayed}
use Rattle.gc_graph.specs.Pause.{judged}
use Rattle.gc_graph.specs.Placement.{Extent}
use Rattle.marker_core.specs.declared.states.Body.{Body}
use Rattle.page_words.specs.Seat.{SeatView, IsView}
use Rattle.page_space.specs.Space.{body_extent, extents_of_bodies}
use Rattle.atomic_pause.specs.Nodes.{place_of, body_of, bodies_of, IsThere}
use Rattle.atomic_pause.specs.Judgement.{nodes_after}
use Rattle.atomic_pause.specs.NodeLives.{life-condemn, still_there}
use Rattle.atomic_pause.specs.NodePlaces.{live_is_there, node_body, body_node, same_node}
use Rattle.atomic_pause.specs.WeakNodes.{life-after, place-after}
use Rattle.gc_graph.specs.Members.{Contains-map, Contains-map_some}

-- where the bodies lie as they lay, a node that is there before and after has the size that it had
size_kept : (old new : List Node) (v w : SeatView) (n : ℕ) → IsView v → v.bodies ≡ bodies_of old → w.bodies ≡ bodies_of new
    → extents_of_bodies w.bodies ≡ extents_of_bodies v.bodies → IsThere old n → IsThere new n → place_of new n ≡ place_of old n
    → size_of (node_at new n) ≡ size_of (node_at old n)
size_kept old new v w n view held held_after same there there_after place =
    let b : Body = body_of (place_of new) n (node_at new n) in
    let listed : Contains (extents_of_bodies v.bodies) (body_extent b) =
    subst (λ es. Contains es (body_extent b)) same (Contains-map body_extent w.bodies b (node_body new w n held_after there_after)) in
    let from = Contains-map_some body_extent v.bodies (body_extent b) listed in
    let node = body_node old v from.0 held from.1 in
    let at : place_of old node.0 ≡ place_of old n = sym (ap (λ (c : Body). c.place) node.3) ∙ ap (λ (e : Extent). e.place) from.2 ∙ place in
    let one : node.0 ≡ n = same_node old v node.0 n view held node.2 there at in
    sym (ap (λ (e : Extent). e.size) from.2) ∙ ap (λ (c : Body). c.size) node.3 ∙ ap (λ m. size_of (node_at old m)) one

-- a pause that leaves the bodies where they lie, with their sizes, does so with the live nodes
pub sizes_stay : (kept : List Bool) (old new : List Node) (v w : SeatView) → IsView v → v.bodies ≡ bodies_of old → w.bodies ≡ bodies_of new
    → extents_of_bodies w.bodies ≡ extents_of_bodies v.bodies → HaveStayed (nodes_after kept old) new → (n : ℕ) → IsLive old n
    → size_of (node_at new n) ≡ size_of (node_at old n)
sizes_stay kept old new v w view held held_after same stayed n live =
    let life : (node_at new n).life ≡ judged (has kept n) Live =
    stayed.life n ∙ life-after kept old n ∙ life-condemn kept old n ∙ ap (judged (has kept n)) live in
    size_kept old new v w n view held held_after same (live_is_there old n live) (ap is_there life ∙ still_there (has kept n)) (stayed.place n ∙ place-after kept old n)
