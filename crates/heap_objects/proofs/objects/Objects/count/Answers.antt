use Rattle.std.proofs.Common.{ap, ◌∙◌, length}
use Rattle.atomic_pause.specs.Nodes.{place_of}
use Rattle.atomic_pause.specs.NodeBodies.{length-bodies}
use Rattle.heap_objects.proofs.objects.Objects.count.Goals as goal

pub returns : goal.returns
returns c =
    rw (← c.self.view_is)
    (c.objects.ensures c.self.inside.seat c.self.invariant.laid ∙ ap length c.self.invariant.held.bodies
    ∙ length-bodies (place_of c.self.inside.nodes.value) 0 c.self.inside.nodes.value)
