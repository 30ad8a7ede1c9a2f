use Rattle.std.proofs.Common.{List, [], length, sym, ap, ◌∙◌}
use Rattle.std.proofs.lemmas.List.Elements.{All-get_or}
use Rattle.gc_graph.specs.State.{Setup, Node, node_at, no_node}
use Rattle.gc_graph.specs.Valid.{IsTyped}
use Rattle.marker_core.specs.declared.states.Body.{Body}
use Rattle.page_words.specs.Seat.{SeatView}
use Rattle.prefinalizer_effects.specs.Shown as shown
use Rattle.prefinalizer_effects.specs.Prepared.{setup_in_space}
use Rattle.nodes_in_words.specs.Nodes.{place_of, body_of}
use Rattle.nodes_in_words.specs.NodePlaces.{node_body}
use Rattle.prefinalizer_effects.proofs.PreparedBodies.{bodies_typed}
use Rattle.prefinalizer_effects.proofs.PrefinalizerShown.{shown_body}
use Rattle.prefinalizer_effects.proofs.StandingNodes.{stands_there, stands_body}
use Rattle.prefinalizer_effects.proofs.paused.show_words.Goals as goal

pub shown_words-requires-clause-typed : goal.shown_words-requires-clause-typed
shown_words-requires-clause-typed c =
    let setup : Setup = setup_in_space c.args.space.now c.args.types.now [] in
    let ready = c.requires.ready in
    bodies_typed setup c.args.nodes.now.value c.args.seat.now c.requires.ready.known c.requires.ready.held.bodies ready.typed

pub shown_words-requires-clause-place : goal.shown_words-requires-clause-place
shown_words-requires-clause-place c =
    stands_body c.args.nodes.now.value c.args.seat.now c.args.place c.requires.ready.held.bodies c.requires.place

pub returns-clause-words : goal.returns-clause-words
returns-clause-words c = (λ n stands.
    let nodes : List Node = c.args.nodes.now.value in
    let v : SeatView = c.args.seat.now in
    let setup : Setup = setup_in_space c.args.space.now c.args.types.now [] in
    let ready = c.requires.ready in
    let b : Body = body_of (place_of nodes) n (node_at nodes n) in
    let typed : IsTyped setup (length nodes) (node_at nodes n) = All-get_or (IsTyped setup (length nodes)) nodes n no_node stands.there ready.typed in
    c.shown_words.ensures.words b (node_body nodes v n c.requires.ready.held.bodies (stands_there nodes c.args.place n stands)) stands.place_is
    ∙ ap (λ ts. shown.shown_body_words ts b) c.requires.ready.known
    ∙ sym (shown_body (place_of nodes) setup (length nodes) n (node_at nodes n) typed))
