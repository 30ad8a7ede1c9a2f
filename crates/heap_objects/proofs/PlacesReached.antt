-- The least closed set of places over given roots is what these reach in the graph of the nodes that lie there.
use Rattle.std.proofs.Common.{◌≡◌, ℕ, Bool, true, List, refl, sym, ◌∙◌, subst, inl, inr, arith}
use Rattle.std.proofs.lemmas.Bool.{true≢false, cases_Bool, false_from_ne_true}
use Rattle.std.proofs.lemmas.List.{length-map}
use Rattle.gc_graph.specs.Graph.{Object, has, IsIn}
use Rattle.gc_graph.specs.Reach.{Reach, AreNodes, IsLeastClosed, ReachIsLeast}
use Rattle.gc_graph.specs.State.{Setup, Node, node_at, graph_of, IsLive}
use Rattle.gc_graph.specs.NodeNumbers.{there_below}
use Rattle.marker_core.specs.Bodies.{holds, is_place}
use Rattle.marker_core.specs.Laws.{IsLeastOver}
use Rattle.page_words.specs.PlaceTests.{test_of_place}
use Rattle.page_words.specs.Roles.{kind_lists}
use Rattle.page_words.specs.Seat.{SeatView, IsView}
use Rattle.atomic_pause.specs.AmongNodes.{IsAmong}
use Rattle.atomic_pause.specs.ClosedPlaces.{reached_place, reached_from, reached_some, kept_closed, places_closed}
use Rattle.atomic_pause.specs.KeptNodes.{kept_parts, kept_from, refers_within}
use Rattle.atomic_pause.specs.NodePlaces.{live_is_there, node_body, same_node}
use Rattle.atomic_pause.specs.Nodes.{place_of, body_of, bodies_of, AreOfValid}
use Rattle.atomic_pause.specs.PlacesInWords.{kept_of}

module _ (setup : Setup) (nodes : List Node) (v : SeatView) (view : IsView v) (valid : AreOfValid setup nodes) (held : v.bodies ≡ bodies_of nodes) where
  -- the roots of the nodes and those of the places name the same, up to what the roots of the nodes reach anyway
  pub record HaveSameRoots (roots : List ℕ) (from : List ℕ) : Type 0 where
    pub live : (n : ℕ) → IsAmong roots n → IsLive nodes n
    pub placed : (n : ℕ) → IsAmong roots n → holds from (place_of nodes n) ≡ true
    pub named : (p : ℕ) → holds from p ≡ true → is_place v.bodies p ≡ true → (n : ℕ) × IsAmong roots n × (place_of nodes n ≡ p)

  -- a live node is in the one set where its place is in the other
  pub place_reached : (roots from places : List ℕ) → ReachIsLeast → HaveSameRoots roots from → IsLeastOver (kind_lists setup.types) v.bodies from places
      → (n : ℕ) → IsLive nodes n → holds places (place_of nodes n) ≡ has (Reach (graph_of nodes) roots) n
  place_reached roots from places law same over n live =
      let g : List Object = graph_of nodes in
      let reach : List Bool = Reach g roots in
      let kept : List Bool = kept_of (holds places) nodes in
      let nodes_are : AreNodes g roots = λ k is. omega (arith, there_below nodes k (live_is_there nodes k (same.live k is)), length-map nodes (λ (x : Node). x.object)) in
      let least : IsLeastClosed g roots reach = law g roots (refers_within setup nodes valid) nodes_are in
      let down : holds places (place_of nodes n) ≡ true → has reach n ≡ true = λ is.
      let w = reached_some nodes reach (place_of nodes n)
      (over.least (reached_place nodes reach) (places_closed setup nodes v view valid held reach least.closed)
      (λ p root place. let r = same.named p root place in
      subst (λ a. reached_place nodes reach a ≡ true) r.2 (reached_from nodes reach r.0 (same.live r.0 r.1) (least.roots_in r.0 r.1)))
      (place_of nodes n) is) in
      subst (IsIn reach) (same_node nodes v w.0 n view held (live_is_there nodes w.0 w.1) (live_is_there nodes n live) w.2) w.3 in
      let up : has reach n ≡ true → holds places (place_of nodes n) ≡ true = λ is.
      (kept_parts (holds places) nodes n (least.least kept (kept_closed setup nodes v view valid held (holds places) over.closed)
      (λ k root. kept_from (holds places) nodes k (same.live k root) (over.roots_in (place_of nodes k) (same.placed k root)
      (test_of_place v.bodies (place_of nodes k) (body_of (place_of nodes) k (node_at nodes k), node_body nodes v k held (live_is_there nodes k (same.live k root)), refl)))) n is)).1 in
      elim (cases_Bool (has reach n)) [
        | inl is ↦ up is ∙ sym is
        | inr not_so ↦ false_from_ne_true (holds places (place_of nodes n)) (λ is. true≢false (sym (down is) ∙ not_so)) ∙ sym not_so
      ]
