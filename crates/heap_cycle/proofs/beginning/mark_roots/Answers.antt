use Rattle.std.proofs.Common.{◌≡◌, List, refl, sym, ap, ◌∙◌, subst}
use Rattle.gc_graph.specs.declared.phase.Phase.TheVariants.{Idle, Marking}
use Rattle.gc_graph.specs.CycleSteps.{is_marking}
use Rattle.gc_graph.specs.State.{Node}
use Rattle.heap_roots.specs.Seat.{IsQuiet}
use Rattle.heap_roots.specs.Sweeping.{cursor_at}
use Rattle.heap_roots.specs.Nodes.{place_of}
use Rattle.heap_roots.specs.Marks.{ObjectsAreAtRest, HasMarks}
use Rattle.heap_roots.specs.Handled.{IsHandled}
use Rattle.heap_cycle.specs.declared.parts.Parts.{Parts}
use Rattle.heap_cycle.specs.Changes.{begun_from}
use Rattle.heap_cycle.specs.Parts.{state_of, IsReady}
use Rattle.heap_cycle.specs.Ties.{valid_nodes}
use Rattle.heap_cycle.specs.Views.{CycleView}
use Rattle.heap_cycle.proofs.StartSteps.{Begins, begun_ready}
use Rattle.heap_cycle.proofs.beginning.mark_roots.Goals as goal

-- an idle heap is at rest, and nothing in it is marked
idle_marks : (s : Parts) → IsReady s → s.cycle.phase ≡ Idle → ObjectsAreAtRest s.objects × IsQuiet s.objects.seat
idle_marks s ready idle = subst (λ ph. HasMarks ph (cursor_at s.objects.shape s.cycle.sweep) s.cycle.rest.may s.objects) idle ready.tied.marks

pub begin-requires : goal.begin-requires
begin-requires c =
    let s : Parts = c.args.parts.now in
    let marks = idle_marks s c.requires.ready c.requires.idle in
    let handled : IsHandled s.objects.nodes s.region.taken = record { live = c.requires.ready.valid.region; placed = c.requires.placed } in
    (refl, (c.requires.told, (handled, (valid_nodes s c.requires.ready, (marks.0, (marks.1, (c.requires.ready.tied.slots, (c.requires.ready.valid.slots, c.requires.ready.valid.stack))))))))

pub returns-clause-ready : goal.returns-clause-ready
returns-clause-ready c =
    let is : Begins c.args.parts.now c.begin.new.objects c.begin-2.new.self = record {
      ready = c.requires.ready;
      idle = c.requires.idle;
      nodes = c.begin.ensures.nodes;
      setup = c.begin.ensures.setup;
      marks = c.begin.ensures.marks;
      traced = c.begin.ensures.traced;
      cycle = c.begin-2.ensures ∙ ap (λ rest. record c.args.parts.now.cycle { phase = Marking; rest = rest }) c.begun-rest.ensures;
    } in
    begun_ready c.args.parts.now c.begin.new.objects c.begin-2.new.self is c.step_keeps_valid.ensures c.shape_is_valid.ensures

pub returns-clause-region : goal.returns-clause-region
returns-clause-region c =
    let s : Parts = c.args.parts.now in
    let cycle : c.begin-2.new.self ≡ record s.cycle { phase = Marking; rest = begun_from (state_of s) } =
    c.begin-2.ensures ∙ ap (λ rest. record s.cycle { phase = Marking; rest = rest }) c.begun-rest.ensures in
    record {
      opened = c.requires.opened;
      placed = λ x n named. c.requires.placed x n named ∙ sym (ap (λ (ns : List Node). place_of ns n) c.begin.ensures.nodes);
      started = c.requires.started ∙ sym (ap (λ (k : CycleView). is_marking k.phase) cycle);
    }
