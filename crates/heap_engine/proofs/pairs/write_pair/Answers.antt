use Rattle.std.proofs.Common.{◌≡◌, ℕ, List, Option, None, get_or, length, refl, sym, ap, ◌∙◌, subst}
use Rattle.gc_graph.specs.declared.kind.Value.{Value}
use Rattle.gc_graph.specs.State.{Node}
use Rattle.gc_graph.specs.Fields.{is_pair}
use Rattle.heap_cycle.specs.WeakHolders.{StayHolders}
use Rattle.heap_cycle.specs.Sweeping.{cursor_at}
use Rattle.heap_cycle.specs.declared.parts.Parts.{Parts}
use Rattle.heap_cycle.specs.Barrier.{MayKeep}
use Rattle.heap_cycle.specs.Field.{Field}
use Rattle.heap_cycle.specs.Objects.{paired_in, ObjectsView, StaysAt}
use Rattle.heap_engine.proofs.FieldAnswers.{Found, found, field_kind}
use Rattle.heap_engine.proofs.PairAnswers.{step_pair}
use Rattle.heap_engine.proofs.KeptSlots.{slot_kept}
use Rattle.heap_engine.proofs.Tellings.{tells_on}
use Rattle.heap_cycle.specs.FieldNodes.{stays-paired, holders-paired}
use Rattle.heap_cycle.specs.Ties.{manned_running, valid_nodes, tied_fields}
use Rattle.heap_engine.proofs.pairs.write_pair.Goals as goal

pub store_pair-requires-clause-valid : goal.store_pair-requires-clause-valid
store_pair-requires-clause-valid c = rw c.in-Ok.ensures.same (valid_nodes c.args.parts.now c.requires.ready)

pub store_pair-requires-clause-field : goal.store_pair-requires-clause-field
store_pair-requires-clause-field c =
    let is : Found is_pair c.args.parts.now c.args.p c.args.f c.in-Ok.field = found is_pair c.args.parts.now c.args.p c.args.f c.in-Ok.field c.requires.ready c.in-Ok.ensures.field in
    rw c.in-Ok.ensures.same (is.node, (rw c.in-Ok.ensures.same at c.named.ensures) ∙ is.slot, is.is)

pub store_pair-requires-clause-kind : goal.store_pair-requires-clause-kind
store_pair-requires-clause-kind c = field_kind is_pair c.args.parts.now c.args.p c.args.f c.in-Ok.field (found is_pair c.args.parts.now c.args.p c.args.f c.in-Ok.field c.requires.ready c.in-Ok.ensures.field)

pub store_pair-requires-clause-parts : goal.store_pair-requires-clause-parts
store_pair-requires-clause-parts c = rw c.in-Ok.ensures.same c.requires.both

pub store_pair-requires-clause-key : goal.store_pair-requires-clause-key
store_pair-requires-clause-key c = rw c.in-Ok.ensures.same c.requires.key

pub store_pair-requires-clause-value : goal.store_pair-requires-clause-value
store_pair-requires-clause-value c = rw c.in-Ok.ensures.same c.requires.value

-- the slot's object may be kept, and so may what is written
pub store_pair-requires-clause-holder : goal.store_pair-requires-clause-holder
store_pair-requires-clause-holder c =
    let s : Parts = c.args.parts.now in
    let is : Found is_pair s c.args.p c.args.f c.in-Ok.field = found is_pair s c.args.p c.args.f c.in-Ok.field c.requires.ready c.in-Ok.ensures.field in
    rw c.in-Ok.ensures.same (subst (λ (x : Field). MayKeep s.objects.seat x.holder) (sym is.is.is) (slot_kept s c.args.p is.node c.requires.ready is.slot))

pub store_pair-requires-clause-key_kept : goal.store_pair-requires-clause-key_kept
store_pair-requires-clause-key_kept c = rw c.in-Ok.ensures.same c.requires.key_kept

pub store_pair-requires-clause-value_kept : goal.store_pair-requires-clause-value_kept
store_pair-requires-clause-value_kept c = rw c.in-Ok.ensures.same c.requires.value_kept

pub returns-in-Ok-clause-step : goal.returns-in-Ok-clause-step
returns-in-Ok-clause-step c =
    let s : Parts = c.args.parts.now in
    rw c.in-Ok.ensures.same
    (step_pair s c.store_pair.new.self c.args.p c.args.f c.in-Ok.field c.args.pair.now.key.value.value c.args.pair.now.value.value.value
    (found is_pair s c.args.p c.args.f c.in-Ok.field c.requires.ready c.in-Ok.ensures.field)
    ((rw c.in-Ok.ensures.same at c.store_pair.ensures.nodes)
    ∙ ap (λ named. paired_in s.objects.nodes named c.args.f c.args.pair.now.key.value.value c.args.pair.now.value.value.value) (rw c.in-Ok.ensures.same at c.named.ensures)))

pub returns-in-Ok-clause-frame : goal.returns-in-Ok-clause-frame
returns-in-Ok-clause-frame c =
    let s : Parts = c.args.parts.now in
    let old : List Node = s.objects.nodes in
    let new : ObjectsView = c.store_pair.new.self in
    let slot : Option ℕ = get_or s.handles.slots c.args.p None in
    let key : Value = c.args.pair.now.key.value.value in
    let value : Value = c.args.pair.now.value.value.value in
    let nodes : new.nodes ≡ paired_in old slot c.args.f key value =
    (rw c.in-Ok.ensures.same at c.store_pair.ensures.nodes) ∙ ap (λ named. paired_in old named c.args.f key value) (rw c.in-Ok.ensures.same at c.named.ensures) in
    rw c.in-Ok.ensures.same (record {
      setup = rw c.in-Ok.ensures.same at c.store_pair.ensures.setup;
      ordinal = refl;
      tied = tied_fields s new c.requires.ready.tied
          (λ n. subst (λ (ns : List Node). StaysAt old ns n) (sym nodes) (stays-paired old slot c.args.f key value n))
          (rw c.in-Ok.ensures.same at c.store_pair.ensures.setup)
          (c.store_pair.ensures.marks s.cycle.phase (cursor_at s.objects.shape s.cycle.sweep) s.cycle.rest.may (rw c.in-Ok.ensures.same c.requires.ready.tied.marks))
          (rw c.in-Ok.ensures.same at c.store_pair.ensures.traced)
          (subst (StayHolders old) (sym nodes) (holders-paired old slot c.args.f key value));
      manned = manned_running s (record s { objects = new }) refl (rw c.in-Ok.ensures.same at c.store_pair.ensures.running) (rw c.in-Ok.ensures.same at c.store_pair.ensures.setup);
      refused = tells_on s new c.requires.ready.tied (rw c.in-Ok.ensures.same at c.store_pair.ensures.refused);
    })
