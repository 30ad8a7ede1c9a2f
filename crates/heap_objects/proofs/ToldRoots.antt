-- The places that are told when marking begins are those of the roots.
use Rattle.std.proofs.Common.{◌≡◌, ℕ, ◌+◌, true, List, map, refl, subst}
use Rattle.std.specs.List.{Contains}
use Rattle.gc_graph.specs.Members.{in_from_holds, holds_from, Contains-map}
use Rattle.gc_graph.specs.State.{Node, node_at}
use Rattle.marker_core.specs.Bodies.{IsPlace, holds}
use Rattle.page_words.specs.Seat.{SeatView}
use Rattle.atomic_pause.specs.NodePlaces.{live_is_there, node_body}
use Rattle.atomic_pause.specs.Nodes.{place_of, body_of, bodies_of}
use Rattle.heap_objects.specs.Marks.{TellsRoots}

-- a told place is that of a body
pub told_place : (nodes : List Node) (v : SeatView) (roots told : List ℕ) → v.bodies ≡ bodies_of nodes → TellsRoots nodes roots told
    → (p : ℕ) → Contains told (p + 1) → IsPlace v.bodies p
told_place nodes v roots told held tells p there =
    let root = tells p there in
    let n : ℕ = root.0 in
    subst (IsPlace v.bodies) root.2.1 (body_of (place_of nodes) n (node_at nodes n), node_body nodes v n held (live_is_there nodes n root.2.0), refl)

-- and that of a root
pub told_root : (nodes : List Node) (roots told : List ℕ) → TellsRoots nodes roots told → (p : ℕ) → Contains told (p + 1)
    → holds (map (place_of nodes) roots) p ≡ true
told_root nodes roots told tells p there =
    let root = tells p there in
    subst (λ q. holds (map (place_of nodes) roots) q ≡ true) root.2.1
    (holds_from (map (place_of nodes) roots) (place_of nodes root.0) (Contains-map (place_of nodes) roots root.0 (in_from_holds roots root.0 root.1)))
