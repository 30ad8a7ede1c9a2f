-- The words hold the nodes after a pause.
use Rattle.std.proofs.Common.{◌≡◌, ℕ, Bool, true, false, ◌&&◌, not, List, [], map, refl, sym, ap, ◌∙◌}
use Rattle.std.specs.List.{Contains}
use Rattle.gc_graph.specs.Graph.{has}
use Rattle.gc_graph.specs.State.{ObjectType, Node, node_at, is_live, is_dead}
use Rattle.gc_graph.specs.State.Life.{Live}
use Rattle.gc_graph.specs.Pause.{judged, condemn}
use Rattle.gc_graph.specs.Members.{Contains-map, filtered_holds, holds_from}
use Rattle.marker_core.specs.declared.states.Body.{Body}
use Rattle.marker_core.specs.Bodies.{holds}
use Rattle.marker_core.specs.SeatSteps.{unmarked_places}
use Rattle.page_words.specs.Seat.{SeatView, side}
use Rattle.prefinalizer_effects.specs.PlacesInWords.{BodiesAreJudged, kept_of}
use Rattle.prefinalizer_effects.specs.Nodes.{place_of, body_of, bodies_of, IsThere, IsHeld}
use Rattle.prefinalizer_effects.specs.NodeChanges.{bodies-same, bodies-condemn}
use Rattle.prefinalizer_effects.specs.NodePlaces.{node_body}
use Rattle.prefinalizer_effects.specs.NodeLives.{life-condemn, place-condemn, there-condemn, live_if_there, dead_judged, none_dead}
use Rattle.prefinalizer_effects.specs.KeptNodes.{has-kept}
use Rattle.atomic_pause.specs.Marking.{MarksReachable}

-- ---- a pause

pub dead_if_unmarked : (v : SeatView) (b : Body) → v.dead ≡ unmarked_places (side v) → Contains v.bodies b → holds v.dead b.place ≡ not (holds v.marked b.place)
dead_if_unmarked v b is there =
    ap (λ l. holds l b.place) is ∙ filtered_holds (λ a. not (holds v.marked a)) (map (λ (c : Body). c.place) v.bodies) b.place
    ∙ ap (λ h. not (holds v.marked b.place) && h) (holds_from (map (λ (c : Body). c.place) v.bodies) b.place (Contains-map (λ (c : Body). c.place) v.bodies b there))
    ∙ and-true (not (holds v.marked b.place)) where
      and-true : (x : Bool) → (x && true) ≡ x
      and-true true = refl
      and-true false = refl

pub judged_after : (types : List ObjectType) (root may : ℕ → Type 0) (v new : SeatView) → MarksReachable types root may v new → BodiesAreJudged new
judged_after types root may v new marks b there = dead_if_unmarked new b marks.dead there

pub held_judged : (nodes : List Node) (types : List ObjectType) (root may : ℕ → Type 0) (v new : SeatView) → v.dead ≡ [] → IsHeld nodes v → MarksReachable types root may v new
    → IsHeld (condemn (kept_of (holds new.marked) nodes) nodes) new
held_judged nodes types root may v new none held marks =
    let kept : List Bool = kept_of (holds new.marked) nodes in
    let after : List Node = condemn kept nodes in
    let same : bodies_of after ≡ bodies_of nodes =
    bodies-condemn (place_of after) 0 kept nodes ∙ bodies-same (place_of after) (place_of nodes) nodes (place-condemn kept nodes) in
    record {
      bodies = marks.bodies ∙ held.bodies ∙ sym same;
      dead = λ n there.
          let was : IsThere nodes n = there-condemn kept nodes n there in
          let live : (node_at nodes n).life ≡ Live = live_if_there (node_at nodes n).life was (none_dead nodes v held none n) in
          let flag : has kept n ≡ holds new.marked (place_of nodes n) =
          has-kept (holds new.marked) nodes n ∙ ap (λ l. is_live l && holds new.marked (place_of nodes n)) live in
          let life : (node_at after n).life ≡ judged (holds new.marked (place_of nodes n)) Live =
          life-condemn kept nodes n ∙ ap (λ b. judged b (node_at nodes n).life) flag ∙ ap (judged (holds new.marked (place_of nodes n))) live in
          ap (holds new.dead) (place-condemn kept nodes n)
          ∙ dead_if_unmarked new (body_of (place_of nodes) n (node_at nodes n)) marks.dead (node_body nodes new n (marks.bodies ∙ held.bodies) was)
          ∙ sym (ap is_dead life ∙ dead_judged (holds new.marked (place_of nodes n)));
    }
