-- Which nodes a precise pause looks at until marking ends: those that it keeps, and keys of their pairs.
use Rattle.std.proofs.Common.{◌≡◌, ℕ, ◌+◌, true, List, [], sym, ap, ◌∙◌, subst, inl, inr}
use Rattle.std.specs.List.{Contains}
use Rattle.gc_graph.specs.ActionLaw.{HaveStayed}
use Rattle.gc_graph.specs.Pause.{judged}
use Rattle.gc_graph.specs.State.{Setup, Node, node_at, IsLive}
use Rattle.marker_core.specs.declared.states.Body.{Body}
use Rattle.marker_core.specs.Bodies.{holds}
use Rattle.page_words.specs.Seat.{SeatView, IsView}
use Rattle.ephemerons.specs.BodyGraph.{pair_offsets, word_at}
use Rattle.ephemerons.specs.LookedAt.{IsLookedAt}
use Rattle.prefinalizer_effects.specs.KeptNodes.{kept_from}
use Rattle.prefinalizer_effects.specs.KeyNodes.{key_of_node}
use Rattle.prefinalizer_effects.specs.Judgement.{nodes_after}
use Rattle.prefinalizer_effects.specs.NodeLives.{life-condemn, live_if_there, none_dead}
use Rattle.prefinalizer_effects.specs.NodePlaces.{body_node}
use Rattle.prefinalizer_effects.specs.Nodes.{place_of, body_of, IsHeld, AreOfValid}
use Rattle.prefinalizer_effects.specs.PlacesInWords.{kept_of}
use Rattle.prefinalizer_effects.specs.WeakNodes.{life-after}
use Rattle.atomic_pause.specs.Pausing.{IsPlaceOfKept}

-- marking was brought to its end (y), and the nodes were judged by its marks
module _ (setup : Setup) (nodes new : List Node) (v y : SeatView) (valid : AreOfValid setup nodes) (held : IsHeld nodes v) (known : v.types ≡ setup.types) (none : v.dead ≡ [])
    (view : IsView y) (bodies : y.bodies ≡ v.bodies) (stayed : HaveStayed (nodes_after (kept_of (holds y.marked) nodes) nodes) new) where
  -- a body is that of a live node
  node_here : (b : Body) → Contains y.bodies b → (n : ℕ) × IsLive nodes n × (b ≡ body_of (place_of nodes) n (node_at nodes n))
  node_here b there =
      let w = body_node nodes v b held.bodies (subst (λ bs. Contains bs b) bodies there) in
      (w.0, live_if_there (node_at nodes w.0).life w.2 (none_dead nodes v held none w.0), w.3)

  -- which is kept where its body is marked
  lives_on : (n : ℕ) → IsLive nodes n → holds y.marked (place_of nodes n) ≡ true → IsLive new n
  lives_on n live marked =
      stayed.life n ∙ life-after (kept_of (holds y.marked) nodes) nodes n ∙ life-condemn (kept_of (holds y.marked) nodes) nodes n
      ∙ ap (λ flag. judged flag (node_at nodes n).life) (kept_from (holds y.marked) nodes n live marked) ∙ live

  pub looked_at_kept : (p : ℕ) → IsLookedAt setup.types y p → IsPlaceOfKept nodes new p
  looked_at_kept p is = elim is [
    | inl marked ↦
        (let body = view.marked_are_bodies p marked in
        let node = node_here body.0 body.1 in
        let place : place_of nodes node.0 ≡ p = sym (ap (λ (b : Body). b.place) node.2) ∙ body.2 in
        (node.0, place, inl (lives_on node.0 node.1 (ap (holds y.marked) place ∙ marked))))
    | inr key ↦
        (let node = node_here key.holder key.there in
        let place : place_of nodes node.0 ≡ key.holder.place = sym (ap (λ (b : Body). b.place) node.2) in
        let found = key_of_node setup nodes v node.0 p key.offset valid held known node.1
        (subst (λ (b : Body). Contains (pair_offsets setup.types b) key.offset) node.2 key.pair) (subst (λ (b : Body). word_at b key.offset ≡ p + 1) node.2 key.key) in
        (found.0, found.1, inr (node.0, lives_on node.0 node.1 (ap (holds y.marked) place ∙ key.marked), found.2)))
  ]
