use Rattle.std.proofs.Common.{◌≡◌, ℕ, ◌+◌, refl, sym, ap, ◌∙◌, subst}
use Rattle.gc_graph.specs.State.{Setup}
use Rattle.gc_graph.specs.Sweep.{phase_at}
use Rattle.heap_roots.specs.Sweeping.{SweepView, cursor_at}
use Rattle.heap_cycle.specs.Changes.{swept_to, SweepsParts}
use Rattle.heap_roots.specs.Objects.{ObjectsView}
use Rattle.heap_cycle.specs.Views.{ran_of, CycleView}
use Rattle.heap_roots.specs.Marks.{HasMarks}
use Rattle.heap_cycle.proofs.SweptObjects.{marks_at, parts_swept}
use Rattle.heap_cycle.proofs.cycle.Cycle.sweep_page.Goals as goal

pub returns-clause-swept : goal.returns-clause-swept
returns-clause-swept c =
    let o : ObjectsView = c.args.objects.now in
    let w : SweepView = c.finalise_page-count.new.sweep in
    let next : ℕ = c.self.inside.sweep.cursor + 1 in
    let before : CycleView = record { phase = c.self.inside.phase; sweep = c.self.inside.sweep; registered = c.self.inside.registered.prefinalizers.entries; weakly = c.self.inside.registered.weak_callbacks.entries; ran = ran_of c.self.inside.registered; rest = c.self.inside.rest.value } in
    let after : CycleView = record { phase = c.phase_after-self-inside.result; sweep = w; registered = c.self.inside.registered.prefinalizers.entries; weakly = c.self.inside.registered.weak_callbacks.entries; ran = ran_of c.self.inside.registered; rest = c.swept.result.value } in
    let cursor : w.cursor ≡ next = ap (λ (s : SweepView). s.cursor) c.finalise_page-count.ensures.cursor in
    let shape : o.shape.pages ≡ c.pages.result = sym (c.pages.ensures ∙ ap (λ (st : Setup). st.shape.pages) c.finalise_page-count.ensures.setup) in
    let phase : c.phase_after-self-inside.result ≡ phase_at o.shape next = c.phase_after-self-inside.ensures o.shape shape ∙ ap (phase_at o.shape) (c.cursor-2.ensures.cursor ∙ cursor) in
    let all : w.pages ≡ o.shape.pages = ap (λ (s : SweepView). s.pages) c.finalise_page-count.ensures.cursor ∙ (rw (← c.self.view_is) at c.requires.pages) in
    let marks : HasMarks c.phase_after-self-inside.result (cursor_at o.shape w) c.swept.result.value.may c.finalise_page-count.new.self =
    subst (λ ph. HasMarks ph (cursor_at o.shape w) c.swept.result.value.may c.finalise_page-count.new.self) (sym phase)
    (marks_at o.shape next (cursor_at o.shape w) _ c.finalise_page-count.new.self c.finalise_page-count.ensures.rest c.finalise_page-count.ensures.marks (λ last. c.finalise_page-count.ensures.quiet (cursor ∙ last ∙ sym all))) in
    let is : SweepsParts o c.finalise_page-count.new.self before after next c.args.finalised.now.items c.finalise_page-count.new.finalised.items =
    parts_swept o c.finalise_page-count.new.self before after next c.finalise_page-count.result (cursor_at o.shape w) c.args.finalised.now.items c.finalise_page-count.new.finalised.items
    c.finalise_page-count.ensures.setup c.finalise_page-count.ensures.nodes (ap (cursor_at o.shape) c.finalise_page-count.ensures.cursor) c.finalise_page-count.ensures.count phase
    c.finalise_page-count.ensures.cursor refl refl refl (c.swept.ensures ∙ ap (λ n. swept_to n c.finalise_page-count.result c.self.inside.rest.value) (c.cursor.ensures.cursor ∙ cursor)) marks c.finalise_page-count.ensures.grey in
    rw (← c.self.view_is) is
