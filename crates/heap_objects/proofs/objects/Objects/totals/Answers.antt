use Rattle.std.proofs.Common.{ap, ◌∙◌, subst, length}
use Rattle.std.specs.List.{sum_by}
use Rattle.gc_graph.specs.Placement.{IsUsedPages}
use Rattle.marker_core.specs.declared.states.Body.{Body}
use Rattle.page_space.specs.Space.{extents_of_bodies}
use Rattle.atomic_pause.specs.Nodes.{place_of}
use Rattle.atomic_pause.specs.NodeBodies.{extents-bodies, length-bodies, used-bodies}
use Rattle.heap_objects.proofs.objects.Objects.totals.Goals as goal

pub returns-clause-objects : goal.returns-clause-objects
returns-clause-objects c =
    rw (← c.self.view_is)
    (c.objects.ensures c.self.inside.seat c.self.invariant.laid ∙ ap length c.self.invariant.held.bodies
    ∙ length-bodies (place_of c.self.inside.nodes.value) 0 c.self.inside.nodes.value)

pub returns-clause-used : goal.returns-clause-used
returns-clause-used c =
    rw (← c.self.view_is)
    (c.used.ensures c.self.inside.seat c.self.invariant.laid ∙ ap (sum_by (λ (b : Body). b.size)) c.self.invariant.held.bodies
    ∙ used-bodies (place_of c.self.inside.nodes.value) 0 c.self.inside.nodes.value)

pub returns-clause-pages : goal.returns-clause-pages
returns-clause-pages c =
    rw (← c.self.view_is)
    (subst (λ es. IsUsedPages c.self.inside.space.shape es c.pages_in_use.result)
    (ap extents_of_bodies c.self.invariant.held.bodies ∙ extents-bodies (place_of c.self.inside.nodes.value) 0 c.self.inside.nodes.value)
    (c.pages_in_use.ensures c.self.inside.seat c.self.invariant.laid))
