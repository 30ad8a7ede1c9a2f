-- Closed sets of nodes are closed sets of places, and the other way round. Lemmas that the crates above cite too, since a crate's
-- proofs/ can't be cited from another.
use Rattle.std.proofs.Common.{◌≡◌, ℕ, Bool, true, ◌&&◌, List, length, refl, sym, subst, eqb}
use Rattle.std.specs.List.{Contains}
use Rattle.std.proofs.lemmas.Bool.{and_parts, and_from, eqb-true, eq-eqb}
use Rattle.gc_graph.specs.Graph.{Object, has, IsIn, IsClosed, leads_to}
use Rattle.gc_graph.specs.Reach.{any_below}
use Rattle.gc_graph.specs.State.{Setup, Node, node_at, graph_of, is_live, IsLive}
use Rattle.gc_graph.specs.NodeNumbers.{there_below, object_of_node}
use Rattle.gc_graph.specs.Leading.{IsLed, is_led, led_leads, led_named, led_wider}
use Rattle.gc_graph.specs.AnyBelow.{any_below-from, any_below-some}
use Rattle.marker_core.specs.declared.states.Body.{Body}
use Rattle.marker_core.specs.Closed.{IsClosedOver}
use Rattle.page_words.specs.BodyPlaces.{same_body}
use Rattle.page_words.specs.Roles.{kind_lists}
use Rattle.page_words.specs.Seat.{SeatView, IsView}
use Rattle.pair_notes.specs.BodyGraph.{object_in}
use Rattle.pair_notes.specs.BodyLeads.{led_within, closed_from}
use Rattle.nodes_in_words.specs.Nodes.{place_of, body_of, bodies_of, IsThere, AreOfValid}
use Rattle.nodes_in_words.specs.Places.{kept_of}
use Rattle.nodes_in_words.specs.NodePlaces.{live_is_there, live_is_live, is_live_life, node_body, same_node}
use Rattle.nodes_in_words.specs.BodyGraph.{renamed_object, led_renamed, renamed_led}
use Rattle.nodes_in_words.specs.NodeGraph.{node_led, led_node}
use Rattle.nodes_in_words.specs.KeptNodes.{kept_parts, kept_from, named_live, live_typed}

-- ---- a set of nodes as a test of places

-- the test of places that holds of the places of the live nodes in the set
unfoldable pub reached_place : List Node → List Bool → ℕ → Bool
reached_place nodes set p = any_below (λ n. is_live (node_at nodes n).life && (eqb (place_of nodes n) p && has set n)) (length nodes)

pub reached_from : (nodes : List Node) (set : List Bool) (n : ℕ) → IsLive nodes n → IsIn set n → reached_place nodes set (place_of nodes n) ≡ true
unfolding reached_place
reached_from nodes set n live is =
    any_below-from _ (length nodes) n (there_below nodes n (live_is_there nodes n live))
    (and_from _ _ (live_is_live nodes n live) (and_from _ _ (eq-eqb (place_of nodes n) (place_of nodes n) refl) is))

pub reached_some : (nodes : List Node) (set : List Bool) (p : ℕ) → reached_place nodes set p ≡ true → (n : ℕ) × IsLive nodes n × (place_of nodes n ≡ p) × IsIn set n
unfolding reached_place
reached_some nodes set p h =
    let w = any_below-some (λ n. is_live (node_at nodes n).life && (eqb (place_of nodes n) p && has set n)) (length nodes) h in
    let live = and_parts (is_live (node_at nodes w.0).life) _ w.1 in
    let rest = and_parts (eqb (place_of nodes w.0) p) (has set w.0) live.1 in
    (w.0, is_live_life (node_at nodes w.0).life live.0, eqb-true (place_of nodes w.0) p rest.0, rest.1)

module _ (setup : Setup) (nodes : List Node) (v : SeatView) (view : IsView v) (valid : AreOfValid setup nodes) (held : v.bodies ≡ bodies_of nodes) where
  -- the body of a live node
  body_there : (m : ℕ) → IsLive nodes m → Contains v.bodies (body_of (place_of nodes) m (node_at nodes m))
  body_there m live = node_body nodes v m held (live_is_there nodes m live)

  -- the live nodes whose places pass a closed test are a closed set
  pub kept_closed : (test : ℕ → Bool) → IsClosedOver (kind_lists setup.types) v.bodies test → IsClosed (graph_of nodes) (kept_of test nodes)
  kept_closed test closed m n is leads =
      let kept : List Bool = kept_of test nodes in
      let place : ℕ → ℕ = place_of nodes in
      let parts = kept_parts test nodes m is in
      let o : Object = (node_at nodes m).object in
      let led : IsLed (has kept) o n = is_led (has kept) o n (subst (λ x. leads_to kept x n ≡ true) (object_of_node nodes m) leads) in
      let words : IsLed test (renamed_object place o) (place n) =
      led_renamed place test o n (led_wider (has kept) (λ k. test (place k)) o n (λ k there in_kept. (kept_parts test nodes k in_kept).1) led) in
      kept_from test nodes n (named_live setup nodes m n valid parts.0 (led_named (has kept) o n led))
      (led_within setup.types v.bodies test (body_of place m (node_at nodes m)) (place n) closed (body_there m parts.0) parts.1
      (led_node setup place (length nodes) m (node_at nodes m) test (place n) (live_typed setup nodes m valid parts.0) words))

  -- the places of a closed set are closed
  pub places_closed : (set : List Bool) → IsClosed (graph_of nodes) set → IsClosedOver (kind_lists setup.types) v.bodies (reached_place nodes set)
  places_closed set closed = closed_from setup.types v.bodies (reached_place nodes set) (λ b q there is leads.
      let place : ℕ → ℕ = place_of nodes in
      let w = reached_some nodes set b.place is in
      let o : Object = (node_at nodes w.0).object in
      let one : b ≡ body_of place w.0 (node_at nodes w.0) = same_body v b (body_of place w.0 (node_at nodes w.0)) view there (body_there w.0 w.1) (sym w.2) in
      let edge = renamed_led place (reached_place nodes set) o q
      (node_led setup place (length nodes) w.0 (node_at nodes w.0) (reached_place nodes set) q (live_typed setup nodes w.0 valid w.1)
      (subst (λ (c : Body). IsLed (reached_place nodes set) (object_in setup.types c) q) one leads)) in
      let within : IsLed (has set) o edge.0 = led_wider (λ k. reached_place nodes set (place k)) (has set) o edge.0
      (λ k there reached.
      let x = reached_some nodes set (place k) reached in
      let k_there : IsThere nodes k = live_is_there nodes k (named_live setup nodes w.0 k valid w.1 there) in
      subst (IsIn set) (same_node nodes v x.0 k view held (live_is_there nodes x.0 x.1) k_there x.2) x.3) edge.2 in
      subst (λ a. reached_place nodes set a ≡ true) edge.1
      (reached_from nodes set edge.0 (named_live setup nodes w.0 edge.0 valid w.1 (led_named (has set) o edge.0 within))
      (closed w.0 edge.0 w.3 (subst (λ x. leads_to set x edge.0 ≡ true) (sym (object_of_node nodes w.0)) (led_leads (has set) o edge.0 within)))))
