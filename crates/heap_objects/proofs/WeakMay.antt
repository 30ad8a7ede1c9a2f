-- What may be kept once marking has begun, and after a weak read, as nodes.
use Rattle.std.proofs.Common.{◌≡◌, ℕ, Bool, true, List, [], ◌∷◌, ◌++◌, map, refl, sym, ap, ◌∙◌, subst, inl, inr, arith}
use mathlib.Core.Logic.{◌⊎◌}
use Rattle.std.proofs.lemmas.List.{length-map}
use Rattle.gc_graph.specs.Graph.{Object, has, IsClosed}
use Rattle.gc_graph.specs.May.{members}
use Rattle.gc_graph.specs.Members.{Contains-map, Contains-map_some, pushed_is_held, holds_from, in_from_holds}
use Rattle.gc_graph.specs.Reach.{Reach, ReachIsLeast, IsLeastClosed, AreNodes}
use Rattle.gc_graph.specs.ReachLength.{reach_length}
use Rattle.gc_graph.specs.State.{Setup, Node, graph_of, IsLive}
use Rattle.gc_graph.specs.NodeNumbers.{there_below}
use Rattle.marker_core.specs.declared.states.Body.{Body}
use Rattle.marker_core.specs.Bodies.{holds, is_place}
use Rattle.marker_core.specs.Laws.{IsLeastOver}
use Rattle.page_words.specs.PlaceTests.{place_of_test}
use Rattle.page_words.specs.Roles.{kind_lists}
use Rattle.page_words.specs.Seat.{SeatView, IsView}
use Rattle.atomic_pause.specs.AmongNodes.{IsAmong, among_left}
use Rattle.atomic_pause.specs.ClosedPlaces.{kept_closed}
use Rattle.atomic_pause.specs.KeptNodes.{kept_parts, kept_from, refers_within}
use Rattle.atomic_pause.specs.NodeLives.{live_if_there, none_dead}
use Rattle.atomic_pause.specs.NodePlaces.{live_is_there, body_node}
use Rattle.atomic_pause.specs.Nodes.{place_of, IsHeld, AreOfValid}
use Rattle.atomic_pause.specs.PlacesInWords.{kept_of}
use Rattle.atomic_pause.specs.MembersOf.{member_among, among_member}
use Rattle.heap_objects.specs.Marks.{IsMayOf}
use Rattle.heap_objects.proofs.PlacesReached.{HaveSameRoots, place_reached}
use Rattle.heap_objects.proofs.WayChanges.{held_push, push_holds}

-- ---- a reach has live nodes alone

module _ (setup : Setup) (nodes : List Node) (v : SeatView) (view : IsView v) (valid : AreOfValid setup nodes) (held : IsHeld nodes v) (none : v.dead ≡ []) (law : ReachIsLeast) where
  reach_live : (roots : List ℕ) → ((n : ℕ) → IsAmong roots n → IsLive nodes n) → (n : ℕ) → has (Reach (graph_of nodes) roots) n ≡ true → IsLive nodes n
  reach_live roots live n is =
      let g : List Object = graph_of nodes in
      let all : List Bool = kept_of (λ p. true) nodes in
      let are : AreNodes g roots = λ k root. omega (arith, there_below nodes k (live_is_there nodes k (live k root)), length-map nodes (λ (x : Node). x.object)) in
      let least : IsLeastClosed g roots (Reach g roots) = law g roots (refers_within setup nodes valid) are in
      let closed : IsClosed g all = kept_closed setup nodes v view valid held.bodies (λ p. true)
      (record { strong = λ b i there is role some. refl; pairs = λ b i there is role some key next. refl }) in
      (kept_parts (λ p. true) nodes n (least.least all closed (λ k root. kept_from (λ p. true) nodes k (live k root) refl) n is)).0

  -- a body lies where a live node does
  node_there : (p : ℕ) → is_place v.bodies p ≡ true → (n : ℕ) × IsLive nodes n × (place_of nodes n ≡ p)
  node_there p place =
      let at = place_of_test v.bodies p place in
      let node = body_node nodes v at.0 held.bodies at.1 in
      (node.0, live_if_there _ node.2 (none_dead nodes v held none node.0), sym (ap (λ (b : Body). b.place) node.3) ∙ at.2)

  -- ---- what roots reach

  pub reached_is_may : (w : SeatView) (roots from : List ℕ) → HaveSameRoots setup nodes v view valid held.bodies roots from
      → IsLeastOver (kind_lists setup.types) v.bodies from w.may → IsMayOf nodes w (Reach (graph_of nodes) roots)
  reached_is_may w roots from same over = record {
    whole = reach_length (graph_of nodes) roots ∙ length-map nodes (λ (x : Node). x.object);
    live = reach_live roots same.live;
    same = place_reached setup nodes v view valid held.bodies roots from w.may law same over;
  }

  -- marking has begun from the places of these nodes
  pub begun_is_may : (w : SeatView) (roots : List ℕ) → ((n : ℕ) → IsAmong roots n → IsLive nodes n)
      → IsLeastOver (kind_lists setup.types) v.bodies (map (place_of nodes) roots) w.may → IsMayOf nodes w (Reach (graph_of nodes) roots)
  begun_is_may w roots live over = reached_is_may w roots (map (place_of nodes) roots) (record {
    live = live;
    placed = λ n is. holds_from (map (place_of nodes) roots) (place_of nodes n) (Contains-map (place_of nodes) roots n (in_from_holds roots n is));
    named = λ p is place.
        let from = Contains-map_some (place_of nodes) roots p (in_from_holds (map (place_of nodes) roots) p is) in
        (from.0, holds_from roots from.0 from.1, from.2);
  }) over

  -- the live node n was read
  pub read_is_may : (w : SeatView) (may : List Bool) (n : ℕ) → IsLive nodes n → IsMayOf nodes v may
      → IsLeastOver (kind_lists setup.types) v.bodies (v.may ++ place_of nodes n ∷ []) w.may → IsMayOf nodes w (Reach (graph_of nodes) (members may ++ n ∷ []))
  read_is_may w may n live is over = reached_is_may w (members may ++ n ∷ []) (v.may ++ place_of nodes n ∷ []) (record {
    live = λ k root. elim (among_last k root) [ inl old ↦ is.live k old | inr same ↦ subst (IsLive nodes) same live ];
    placed = λ k root. elim (among_last k root) [
      | inl old ↦ push_holds v.may (place_of nodes n) (place_of nodes k) (is.same k (is.live k old) ∙ old)
      | inr same ↦ subst (λ m. holds (v.may ++ place_of nodes n ∷ []) (place_of nodes m) ≡ true) same (pushed_is_held v.may (place_of nodes n))
    ];
    named = λ p in_set place. elim (held_push v.may (place_of nodes n) p in_set) [
      | inl old ↦
          (let node = node_there p place in
          let in_may : has may node.0 ≡ true = sym (is.same node.0 node.1) ∙ ap (holds v.may) node.2 ∙ old in
          (node.0, among_left (members may) (n ∷ []) node.0 (member_among may node.0 in_may), node.2))
      | inr same ↦ (n, pushed_is_held (members may) n, same)
    ];
  }) over where
    among_last : (k : ℕ) → IsAmong (members may ++ n ∷ []) k → (has may k ≡ true) ⊎ (n ≡ k)
    among_last k root = elim (held_push (members may) n k root) [ inl old ↦ inl (among_member may k old) | inr same ↦ inr same ]
