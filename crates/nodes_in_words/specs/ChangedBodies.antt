-- Bodies that change and stay where they are, with their sizes.
use Rattle.std.proofs.Common.{◌≡◌, not, List, [], ◌∷◌, map, refl, sym, ap, ◌∙◌, subst}
use Rattle.gc_graph.specs.Members.{Contains-map_some}
use Rattle.marker_core.specs.declared.states.Body.{Body}
use Rattle.marker_core.specs.Bodies.{holds}
use Rattle.page_words.specs.Seat.{SeatView, with_bodies}
use Rattle.page_space.specs.Space.{extents_of_bodies}
use Rattle.nodes_in_words.specs.Places.{BodiesAreJudged}

-- a change of bodies that leaves each at its place, with its size
abbrev pub KeepsExtents : (Body → Body) → Type 0
KeepsExtents change = (b : Body) → ((change b).place ≡ b.place) × ((change b).size ≡ b.size)

-- a change that leaves bodies their places and sizes leaves the words in which they lie
pub same_extents : (change : Body → Body) → KeepsExtents change → (bodies : List Body) → extents_of_bodies (map change bodies) ≡ extents_of_bodies bodies
same_extents change keeps [] = refl
same_extents change keeps (b ∷ bodies) =
    let is = keeps b in
    ap (λ p. record { place = p; size = (change b).size } ∷ extents_of_bodies (map change bodies)) is.0
    ∙ ap (λ s. record { place = b.place; size = s } ∷ extents_of_bodies (map change bodies)) is.1
    ∙ ap (λ es. record { place = b.place; size = b.size } ∷ es) (same_extents change keeps bodies)

-- where each body is dead or marked, and not both, a change that leaves them their places and sizes leaves it so
pub judged_changed : (change : Body → Body) → KeepsExtents change → (v : SeatView) → BodiesAreJudged v → BodiesAreJudged (with_bodies v (map change v.bodies))
judged_changed change keeps v is b there =
    let from = Contains-map_some change v.bodies b there in
    subst (λ p. holds v.dead p ≡ not (holds v.marked p)) (sym (keeps from.0).0 ∙ ap (λ (c : Body). c.place) from.2) (is from.0 from.1)
