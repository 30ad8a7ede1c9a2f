use Rattle.std.proofs.Common.{◌≡◌, refl, ap, ◌∙◌}
use Rattle.gc_graph.specs.declared.phase.Phase.TheVariants.{Idle}
use Rattle.heap_roots.specs.Sweeping.{SweepView, cursor_at}
use Rattle.heap_cycle.specs.Changes.{swept_to, SweepsParts}
use Rattle.heap_roots.specs.Objects.{ObjectsView}
use Rattle.heap_cycle.specs.Views.{ran_of, CycleView}
use Rattle.heap_cycle.proofs.SweptObjects.{over_at, parts_swept}
use Rattle.heap_cycle.proofs.cycle.Cycle.end_sweep.Goals as goal

pub returns-clause-swept : goal.returns-clause-swept
returns-clause-swept c =
    let o : ObjectsView = c.args.objects.now in
    let new : ObjectsView = c.finalise_rest-count.new.self in
    let before : CycleView = record { phase = c.self.inside.phase; sweep = c.self.inside.sweep; registered = c.self.inside.registered.prefinalizers.entries; weakly = c.self.inside.registered.weak_callbacks.entries; ran = ran_of c.self.inside.registered; rest = c.self.inside.rest.value } in
    let after : CycleView = record { phase = Idle; sweep = c.finalise_rest-count.new.sweep; registered = c.self.inside.registered.prefinalizers.entries; weakly = c.self.inside.registered.weak_callbacks.entries; ran = ran_of c.self.inside.registered; rest = c.swept.result.value } in
    let pages : c.self.inside.sweep.pages ≡ o.shape.pages = rw (← c.self.view_is) at c.requires.pages in
    let sweep : c.finalise_rest-count.new.sweep ≡ record c.self.inside.sweep { cursor = o.shape.pages } =
    c.finalise_rest-count.ensures.cursor ∙ ap (λ n. record c.self.inside.sweep { cursor = n }) pages in
    let cursor : c.cursor.result ≡ o.shape.pages = c.cursor.ensures.cursor ∙ ap (λ (w : SweepView). w.cursor) sweep in
    let is : SweepsParts o new before after o.shape.pages c.args.finalised.now.items c.finalise_rest-count.new.finalised.items =
    parts_swept o new before after o.shape.pages c.finalise_rest-count.result (cursor_at o.shape c.finalise_rest-count.new.sweep) c.args.finalised.now.items
    c.finalise_rest-count.new.finalised.items c.finalise_rest-count.ensures.setup c.finalise_rest-count.ensures.nodes (ap (cursor_at o.shape) sweep) c.finalise_rest-count.ensures.count
    (over_at o.shape o.shape.pages refl) sweep refl refl refl (c.swept.ensures ∙ ap (λ n. swept_to n c.finalise_rest-count.result c.self.inside.rest.value) cursor)
    (c.finalise_rest-count.ensures.rest, c.finalise_rest-count.ensures.quiet) c.finalise_rest-count.ensures.grey in
    rw (← c.self.view_is) is
