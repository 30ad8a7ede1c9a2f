use Rattle.std.proofs.Common.{◌≡◌, List, None, get_or, length, refl, sym, ap, ◌∙◌, subst}
use Rattle.gc_graph.specs.State.{Node}
use Rattle.heap_cycle.specs.WeakHolders.{StayHolders}
use Rattle.heap_cycle.specs.Sweeping.{cursor_at}
use Rattle.heap_cycle.specs.declared.parts.Parts.{Parts}
use Rattle.heap_cycle.specs.Barrier.{MayKeep}
use Rattle.heap_cycle.specs.Field.{Field}
use Rattle.heap_cycle.specs.Fields.{allows}
use Rattle.heap_cycle.specs.Objects.{written_in, ObjectsView, StaysAt}
use Rattle.heap_engine.proofs.FieldAnswers.{Found, found, field_kind, step_write}
use Rattle.heap_engine.proofs.KeptSlots.{slot_kept, write_kept}
use Rattle.heap_engine.proofs.Tellings.{tells_on}
use Rattle.heap_cycle.specs.FieldNodes.{stays-written, holders-written}
use Rattle.heap_cycle.specs.FieldReads.{takes_suited}
use Rattle.heap_cycle.specs.Ties.{manned_running, valid_nodes, tied_fields}
use Rattle.heap_engine.proofs.fields.write.Goals as goal

pub store-requires-clause-valid : goal.store-requires-clause-valid
store-requires-clause-valid c = rw c.in-Ok.ensures.same (valid_nodes c.args.parts.now c.requires.ready)

pub store-requires-clause-field : goal.store-requires-clause-field
store-requires-clause-field c =
    let is : Found (allows c.args.wanted) c.args.parts.now c.args.p c.args.f c.in-Ok.field = found (allows c.args.wanted) c.args.parts.now c.args.p c.args.f c.in-Ok.field c.requires.ready c.in-Ok.ensures.field in
    rw c.in-Ok.ensures.same (is.node, (rw c.in-Ok.ensures.same at c.named.ensures) ∙ is.slot, is.is)

pub store-requires-clause-value : goal.store-requires-clause-value
store-requires-clause-value c =
    rw c.in-Ok.ensures.same (takes_suited c.args.wanted c.in-Ok.field.kind c.args.parts.now.objects.nodes c.args.content.now.value.value
    (field_kind (allows c.args.wanted) c.args.parts.now c.args.p c.args.f c.in-Ok.field (found (allows c.args.wanted) c.args.parts.now c.args.p c.args.f c.in-Ok.field c.requires.ready c.in-Ok.ensures.field)) c.requires.value)

-- the slot's object may be kept, and what is written
pub store-requires-clause-holder : goal.store-requires-clause-holder
store-requires-clause-holder c =
    let s : Parts = c.args.parts.now in
    let is : Found (allows c.args.wanted) s c.args.p c.args.f c.in-Ok.field = found (allows c.args.wanted) s c.args.p c.args.f c.in-Ok.field c.requires.ready c.in-Ok.ensures.field in
    rw c.in-Ok.ensures.same (subst (λ (x : Field). MayKeep s.objects.seat x.holder) (sym is.is.is) (slot_kept s c.args.p is.node c.requires.ready is.slot))

pub store-requires-clause-kept : goal.store-requires-clause-kept
store-requires-clause-kept c =
    let s : Parts = c.args.parts.now in
    let is : Found (allows c.args.wanted) s c.args.p c.args.f c.in-Ok.field = found (allows c.args.wanted) s c.args.p c.args.f c.in-Ok.field c.requires.ready c.in-Ok.ensures.field in
    rw c.in-Ok.ensures.same
    (write_kept c.args.wanted c.in-Ok.field.kind s.objects.seat c.args.content.now.word (field_kind (allows c.args.wanted) s c.args.p c.args.f c.in-Ok.field is) c.requires.kept)

pub returns-in-Ok-clause-step : goal.returns-in-Ok-clause-step
returns-in-Ok-clause-step c =
    let s : Parts = c.args.parts.now in
    rw c.in-Ok.ensures.same
    (step_write c.args.wanted s c.store.new.self c.args.p c.args.f c.in-Ok.field c.args.content.now.value.value
    (found (allows c.args.wanted) s c.args.p c.args.f c.in-Ok.field c.requires.ready c.in-Ok.ensures.field)
    ((rw c.in-Ok.ensures.same at c.store.ensures.nodes)
    ∙ ap (λ slot. written_in s.objects.nodes slot c.args.f c.args.content.now.value.value) (rw c.in-Ok.ensures.same at c.named.ensures)))

pub returns-in-Ok-clause-frame : goal.returns-in-Ok-clause-frame
returns-in-Ok-clause-frame c =
    let s : Parts = c.args.parts.now in
    let old : List Node = s.objects.nodes in
    let new : ObjectsView = c.store.new.self in
    let nodes : new.nodes ≡ written_in old (get_or s.handles.slots c.args.p None) c.args.f c.args.content.now.value.value =
    (rw c.in-Ok.ensures.same at c.store.ensures.nodes) ∙ ap (λ slot. written_in old slot c.args.f c.args.content.now.value.value) (rw c.in-Ok.ensures.same at c.named.ensures) in
    rw c.in-Ok.ensures.same (record {
      setup = rw c.in-Ok.ensures.same at c.store.ensures.setup;
      ordinal = refl;
      tied = tied_fields s new c.requires.ready.tied
          (λ n. subst (λ (ns : List Node). StaysAt old ns n) (sym nodes) (stays-written old (get_or s.handles.slots c.args.p None) c.args.f c.args.content.now.value.value n))
          (rw c.in-Ok.ensures.same at c.store.ensures.setup)
          (c.store.ensures.marks s.cycle.phase (cursor_at s.objects.shape s.cycle.sweep) s.cycle.rest.may (rw c.in-Ok.ensures.same c.requires.ready.tied.marks))
          (rw c.in-Ok.ensures.same at c.store.ensures.traced)
          (subst (StayHolders old) (sym nodes) (holders-written old (get_or s.handles.slots c.args.p None) c.args.f c.args.content.now.value.value));
      manned = manned_running s (record s { objects = new }) refl (rw c.in-Ok.ensures.same at c.store.ensures.running) (rw c.in-Ok.ensures.same at c.store.ensures.setup);
      refused = tells_on s new c.requires.ready.tied (rw c.in-Ok.ensures.same at c.store.ensures.refused);
    })
