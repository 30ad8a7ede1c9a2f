use Rattle.std.proofs.Common.{List}
use Rattle.gc_graph.specs.State.{Node, node_at}
use Rattle.atomic_pause.specs.Nodes.{place_of, body_of}
use Rattle.heap_objects.specs.FieldPlaces.{live_place}
use Rattle.atomic_pause.specs.NodePlaces.{live_is_there, node_body}
use Rattle.heap_objects.proofs.objects.Objects.size_at.Goals as goal

pub header_at-requires-clause-start : goal.header_at-requires-clause-start
header_at-requires-clause-start c =
    let there = rw (← c.self.view_is) at c.requires.place in
    live_place c.self.inside.nodes.value c.self.inside.seat there.0 c.args.place c.self.invariant.held.bodies there.1

pub returns-clause-size : goal.returns-clause-size
returns-clause-size c = rw (← c.self.view_is) (λ n at.
    let nodes : List Node = c.self.inside.nodes.value in
    (c.header_at.ensures.header (body_of (place_of nodes) n (node_at nodes n)) (node_body nodes c.self.inside.seat n c.self.invariant.held.bodies (live_is_there nodes n at.0)) at.1).size)
