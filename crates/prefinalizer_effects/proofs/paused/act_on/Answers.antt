use Rattle.std.proofs.Common.{◌≡◌, ℕ, List, [], length, sym, ap, ◌∙◌, subst, arith}
use Rattle.std.specs.List.{Contains}
use Rattle.std.proofs.lemmas.List.Elements.{All-get_or}
use Rattle.gc_graph.specs.State.{Setup, Node, node_at, no_node}
use Rattle.gc_graph.specs.ActionLaw.{HaveStayed, AreTyped}
use Rattle.gc_graph.specs.Actions.{acted}
use Rattle.gc_graph.specs.Valid.{IsTyped}
use Rattle.callback_table.specs.Bodies.{StandsAt}
use Rattle.marker_core.specs.declared.states.Body.{Body}
use Rattle.page_words.specs.Seat.{SeatView, OnlyLooked, unlooked}
use Rattle.prefinalizer_effects.specs.Acting as words
use Rattle.nodes_in_words.specs.Nodes.{IsThere, place_of, body_of, IsHeld}
use Rattle.prefinalizer_effects.specs.Prepared.{setup_in_space, AllNameThere}
use Rattle.prefinalizer_effects.proofs.ActedNodes.{StayPut, acted_put, put_looked, named_acted, linked_there}
use Rattle.nodes_in_words.specs.NodePlaces.{node_body, serials_fit}
use Rattle.nodes_in_words.specs.LookedNodes.{held_looked}
use Rattle.gc_graph.specs.NodeNumbers.{there_below}
use Rattle.prefinalizer_effects.proofs.PrefinalizerBodies.{held_acted}
use Rattle.prefinalizer_effects.proofs.PreparedBodies.{bodies_typed, bodies_linked}
use Rattle.prefinalizer_effects.proofs.StandingNodes.{stands_there, stands_body}
use Rattle.page_words.specs.Looking.{looks_same, looks_on}
use Rattle.prefinalizer_effects.proofs.paused.act_on.Goals as goal

pub serial_at-number-requires-clause-start : goal.serial_at-number-requires-clause-start
serial_at-number-requires-clause-start c =
    stands_body c.args.nodes.now.value c.args.seat.now c.args.place c.requires.ready.held.bodies c.requires.place

pub serial_at-number-requires-clause-serials : goal.serial_at-number-requires-clause-serials
serial_at-number-requires-clause-serials c =
    let ready = c.requires.ready in serials_fit c.args.nodes.now.value c.args.seat.now c.requires.ready.held.bodies ready.few

pub apply-requires-clause-typed : goal.apply-requires-clause-typed
apply-requires-clause-typed c =
    let setup : Setup = setup_in_space c.args.space.now c.args.types.now [] in
    let ready = c.requires.ready in
    rw c.serial_at-number.ensures.view (bodies_typed setup c.args.nodes.now.value c.args.seat.now c.requires.ready.known c.requires.ready.held.bodies ready.typed)

pub apply-requires-clause-links : goal.apply-requires-clause-links
apply-requires-clause-links c =
    let setup : Setup = setup_in_space c.args.space.now c.args.types.now [] in
    let ready = c.requires.ready in
    rw c.serial_at-number.ensures.view (bodies_linked setup c.args.nodes.now.value c.args.seat.now c.requires.ready.known c.requires.ready.held.bodies ready.typed ready.named)

pub apply-requires-clause-place : goal.apply-requires-clause-place
apply-requires-clause-place c =
    rw c.serial_at-number.ensures.view
    (stands_body c.args.nodes.now.value c.args.seat.now c.args.place c.requires.ready.held.bodies c.requires.place)

-- the serial number is the node's
one_node : (c : goal.After-drop-nodes) (n : ℕ) → StandsAt c.args.nodes.now.value c.args.place n → c.serial_at-number.result ≡ n
one_node c n stands =
    let nodes : List Node = c.args.nodes.now.value in
    c.serial_at-number.ensures.serial (body_of (place_of nodes) n (node_at nodes n))
    (node_body nodes c.args.seat.now n c.requires.ready.held.bodies (stands_there nodes c.args.place n stands)) stands.place_is

-- what the action left of the nodes
nodes_left : (c : goal.After-drop-nodes) (n : ℕ) → StandsAt c.args.nodes.now.value c.args.place n → acted c.args.nodes.now.value n c.args.action ≡ c.acted.result.value
nodes_left c n stands = sym (c.acted.ensures ∙ ap (λ m. acted c.args.nodes.now.value m c.args.action) (one_node c n stands))

-- and of the words
words_left : (c : goal.After-drop-nodes) (n : ℕ) → StandsAt c.args.nodes.now.value c.args.place n
    → OnlyLooked (words.after_action c.args.seat.now (body_of (place_of c.args.nodes.now.value) n (node_at c.args.nodes.now.value n)) c.args.action) c.apply.new.seat
words_left c n stands =
    let nodes : List Node = c.args.nodes.now.value in
    let b : Body = body_of (place_of nodes) n (node_at nodes n) in
    let there : Contains c.args.seat.now.bodies b = node_body nodes c.args.seat.now n c.requires.ready.held.bodies (stands_there nodes c.args.place n stands) in
    c.apply.ensures.acted b (subst (λ (v : SeatView). Contains v.bodies b) (sym c.serial_at-number.ensures.view) there) stands.place_is
    ∙ ap (λ (v : SeatView). unlooked (words.after_action v b c.args.action)) c.serial_at-number.ensures.view

-- the action leaves each node where it was, with the fields of its type
law_holds : (c : goal.After-drop-nodes) (n : ℕ)
    → HaveStayed c.args.nodes.now.value (acted c.args.nodes.now.value n c.args.action)
    × AreTyped (setup_in_space c.args.space.now c.args.types.now [])
    (acted c.args.nodes.now.value n c.args.action)
law_holds c n =
    let setup : Setup = setup_in_space c.args.space.now c.args.types.now [] in
    let ready = c.requires.ready in c.actions_leave_nodes.ensures setup c.args.nodes.now.value n c.args.action ready.typed

put : (c : goal.After-drop-nodes) (n : ℕ) → StandsAt c.args.nodes.now.value c.args.place n → StayPut c.args.seat.now c.apply.new.seat
put c n stands =
    let nodes : List Node = c.args.nodes.now.value in
    put_looked c.args.seat.now (words.after_action c.args.seat.now (body_of (place_of nodes) n (node_at nodes n)) c.args.action) c.apply.new.seat (words_left c n stands)
    (acted_put c.args.seat.now (body_of (place_of nodes) n (node_at nodes n)) c.args.action)

pub returns-clause-extents : goal.returns-clause-extents
returns-clause-extents c = (put c c.requires.place.0 c.requires.place.1).extents

pub returns-clause-looked : goal.returns-clause-looked
returns-clause-looked c =
    looks_on c.args.seat.now c.serial_at-number.new.seat c.apply.new.seat
    (looks_same c.args.seat.now c.serial_at-number.new.seat c.serial_at-number.ensures.view) c.apply.ensures.looked

pub returns-clause-early : goal.returns-clause-early
returns-clause-early c = (put c c.requires.place.0 c.requires.place.1).early

pub returns-clause-marked : goal.returns-clause-marked
returns-clause-marked c = (put c c.requires.place.0 c.requires.place.1).marked

pub returns-clause-nodes : goal.returns-clause-nodes
returns-clause-nodes c = λ n stands. sym (nodes_left c n stands)

pub returns-clause-ready : goal.returns-clause-ready
returns-clause-ready c =
    let setup : Setup = setup_in_space c.args.space.now c.args.types.now [] in
    let nodes : List Node = c.args.nodes.now.value in
    let v : SeatView = c.args.seat.now in
    let n : ℕ = c.requires.place.0 in
    let stands : StandsAt nodes c.args.place n = c.requires.place.1 in
    let ready = c.requires.ready in
    let there : IsThere nodes n = stands_there nodes c.args.place n stands in
    let stays : StayPut v c.apply.new.seat = put c n stands in
    let held : IsHeld (acted nodes n c.args.action) (words.after_action v (body_of (place_of nodes) n (node_at nodes n)) c.args.action) =
    held_acted setup nodes v n c.args.action c.bodies_lie_apart.ensures ready.held ready.known
    (λ m present. All-get_or (IsTyped setup (length nodes)) nodes m no_node (there_below nodes m present) ready.typed) there
    (λ link m is. linked_there nodes n link m ready.named there is) in
    let law = law_holds c n in
    let left : acted nodes n c.args.action ≡ c.acted.result.value = nodes_left c n stands in
    let count : length (acted nodes n c.args.action) ≡ length nodes = law.0.count in
    record {
      known = stays.types ∙ ready.known;
      laid = c.lasts_while_objects_stay.ensures.objects v c.apply.new.seat stays.heap stays.extents ready.laid;
      off = stays.on ∙ ready.off;
      held = subst (λ (ns : List Node). IsHeld ns c.apply.new.seat) left (held_looked (acted nodes n c.args.action)
          (words.after_action v (body_of (place_of nodes) n (node_at nodes n)) c.args.action) c.apply.new.seat (words_left c n stands) held);
      few = omega (arith, ready.few, count, ap length left);
      typed = subst (AreTyped setup) left law.1;
      named = subst AllNameThere left (named_acted nodes n c.args.action law.0 ready.named);
      judged = stays.judged ready.judged;
    }

pub returns-clause-stayed : goal.returns-clause-stayed
returns-clause-stayed c =
    let n : ℕ = c.requires.place.0 in subst (HaveStayed c.args.nodes.now.value) (nodes_left c n c.requires.place.1) (law_holds c n).0
