use Rattle.std.proofs.Common.{◌≡◌, List, ap, ◌∙◌}
use Rattle.gc_graph.specs.State.{Node, node_at}
use Rattle.marker_core.specs.declared.states.Body.{Body}
use Rattle.marker_core.specs.Bodies.{holds}
use Rattle.page_words.specs.Seat.{SeatView}
use Rattle.nodes_in_words.specs.Nodes.{place_of, body_of}
use Rattle.nodes_in_words.specs.NodePlaces.{node_body}
use Rattle.prefinalizer_effects.proofs.StandingNodes.{stands_there, stands_body, mark_tells}
use Rattle.page_words.specs.Looking.{looks_at}
use Rattle.prefinalizer_effects.proofs.paused.is_marked.Goals as goal

pub header_at-requires-clause-start : goal.header_at-requires-clause-start
header_at-requires-clause-start c =
    stands_body c.args.nodes.now.value c.args.seat.now c.args.place c.requires.ready.held.bodies c.requires.place

pub returns-clause-mark : goal.returns-clause-mark
returns-clause-mark c = (λ n stands.
    let nodes : List Node = c.args.nodes.now.value in
    let v : SeatView = c.args.seat.now in
    let b : Body = body_of (place_of nodes) n (node_at nodes n) in
    let ready = c.requires.ready in
    let at : b.place ≡ c.args.place = stands.place_is in
    (c.header_at.ensures.header b (node_body nodes v n c.requires.ready.held.bodies (stands_there nodes c.args.place n stands)) at).mark.alone
    (c.bodies_lie_apart.ensures.at_rest ready.off).none_lent
    ∙ ap (holds v.marked) at ∙ mark_tells nodes v c.args.place n c.requires.ready.held ready.judged stands)

pub returns-clause-looked : goal.returns-clause-looked
returns-clause-looked c = looks_at c.args.seat.now c.header_at.new.seat c.args.place c.header_at.ensures.looked
