use Rattle.std.proofs.Common.{List, arith}
use Rattle.gc_graph.specs.State.{Node, node_at}
use Rattle.atomic_pause.specs.Nodes.{place_of, body_of}
use Rattle.atomic_pause.specs.NodePlaces.{live_is_there, node_body, serials_fit}
use Rattle.heap_objects.proofs.objects.Objects.number_at.Goals as goal

pub serial_at-requires-clause-start : goal.serial_at-requires-clause-start
serial_at-requires-clause-start c =
    let nodes : List Node = c.self.inside.nodes.value in
    let is = rw (← c.self.view_is) at c.requires.place in
    (body_of (place_of nodes) is.0 (node_at nodes is.0), node_body nodes c.self.inside.seat is.0 c.self.invariant.held.bodies (live_is_there nodes is.0 is.1.0), is.1.1)

pub serial_at-requires-clause-serials : goal.serial_at-requires-clause-serials
serial_at-requires-clause-serials c =
    serials_fit c.self.inside.nodes.value c.self.inside.seat c.self.invariant.held.bodies (omega (arith, c.self.invariant.numbers_are, c.self.ranges))

pub returns-clause-number : goal.returns-clause-number
returns-clause-number c = rw (← c.self.view_is) (λ n is.
    let nodes : List Node = c.self.inside.nodes.value in
    c.serial_at.ensures.serial (body_of (place_of nodes) n (node_at nodes n)) (node_body nodes c.self.inside.seat n c.self.invariant.held.bodies (live_is_there nodes n is.0)) is.1)
