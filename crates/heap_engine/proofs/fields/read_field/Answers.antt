use Rattle.std.proofs.Common.{◌≡◌, ℕ, IfSome, sym, ap, ◌∙◌, subst}
use Rattle.gc_graph.specs.Fields.{target_of, is_reference, is_weak}
use Rattle.heap_cycle.specs.declared.parts.Parts.{Parts}
use Rattle.heap_cycle.specs.Fields.{value_in}
use Rattle.heap_cycle.specs.Objects.{target_in, IsLiveAt, ObjectsView}
use Rattle.heap_engine.specs.FieldSteps.{HasRead}
use Rattle.heap_engine.proofs.FieldAnswers.{Found, found, field_kind, read_live, step_get}
use Rattle.heap_engine.proofs.SlotReads.{target_live, read_frame}
use Rattle.heap_cycle.specs.Ties.{valid_nodes}
use Rattle.heap_engine.proofs.fields.read_field.Goals as goal

-- the field that was asked for
is_found : (c : goal.After-target_at-arg-1) → Found is_reference c.args.parts.now c.args.p c.args.f c.in-Ok.field
is_found c = found is_reference c.args.parts.now c.args.p c.args.f c.in-Ok.field c.requires.ready c.in-Ok.ensures.field

pub target_at-target-requires-clause-valid : goal.target_at-target-requires-clause-valid
target_at-target-requires-clause-valid c = rw c.in-Ok.ensures.same (valid_nodes c.args.parts.now c.requires.ready)

pub target_at-target-requires-clause-field : goal.target_at-target-requires-clause-field
target_at-target-requires-clause-field c =
    let is : Found is_reference c.args.parts.now c.args.p c.args.f c.in-Ok.field = is_found c in
    rw c.in-Ok.ensures.same (is.node, c.args.f, is.is)

pub target_at-target-requires-clause-reference : goal.target_at-target-requires-clause-reference
target_at-target-requires-clause-reference c = field_kind is_reference c.args.parts.now c.args.p c.args.f c.in-Ok.field (is_found c)

-- the object that was read is there
pub keep_read-requires-clause-target : goal.keep_read-requires-clause-target
keep_read-requires-clause-target c =
    let s : Parts = c.args.parts.now in
    let is : Found is_reference s c.args.p c.args.f c.in-Ok.field = found is_reference s c.args.p c.args.f c.in-Ok.field c.requires.ready c.in-Ok.ensures.field in
    let same : c.target_at-target.new.self ≡ s.objects = c.target_at-target.ensures.same ∙ ap (λ (x : Parts). x.objects) c.in-Ok.ensures.same in
    let read : c.target_at-target.result ≡ target_in s.objects.nodes (value_in s.objects.nodes is.node c.args.f) =
    (rw c.in-Ok.ensures.same at c.target_at-target.ensures.target) is.node c.args.f is.is in
    subst (λ (o : ObjectsView). IfSome c.target_at-target.result (λ (t : ℕ × ℕ). IsLiveAt o.nodes t.1 t.0)) (sym same)
    (target_live s.objects.nodes (value_in s.objects.nodes is.node c.args.f) c.target_at-target.result (read_live s c.args.p c.args.f c.in-Ok.field c.requires.ready is) read)

pub returns-in-Ok-clause-step : goal.returns-in-Ok-clause-step
returns-in-Ok-clause-step c =
    let s : Parts = c.args.parts.now in
    let is : Found is_reference s c.args.p c.args.f c.in-Ok.field = found is_reference s c.args.p c.args.f c.in-Ok.field c.requires.ready c.in-Ok.ensures.field in
    let read : c.target_at-target.result ≡ target_in s.objects.nodes (value_in s.objects.nodes is.node c.args.f) =
    (rw c.in-Ok.ensures.same at c.target_at-target.ensures.target) is.node c.args.f is.is in
    let has : HasRead (is_weak c.in-Ok.field.kind) s c.keep_read.new.parts c.target_at-target.result =
    subst (λ (x : Parts). HasRead (is_weak c.in-Ok.field.kind) x c.keep_read.new.parts c.target_at-target.result)
    (ap (λ (x : ObjectsView). record c.field_of.new.parts { objects = x }) c.target_at-target.ensures.same ∙ c.in-Ok.ensures.same) c.keep_read.ensures in
    step_get s c.keep_read.new.parts c.put.new.self c.args.p c.args.f c.args.q c.in-Ok.field c.target_at-target.result c.line_of.result c.requires.ready is read c.line_of.ensures
    has c.put.ensures

pub returns-in-Ok-clause-frame : goal.returns-in-Ok-clause-frame
returns-in-Ok-clause-frame c =
    let s : Parts = c.args.parts.now in
    let is : Found is_reference s c.args.p c.args.f c.in-Ok.field = found is_reference s c.args.p c.args.f c.in-Ok.field c.requires.ready c.in-Ok.ensures.field in
    let read : c.target_at-target.result ≡ target_in s.objects.nodes (value_in s.objects.nodes is.node c.args.f) =
    (rw c.in-Ok.ensures.same at c.target_at-target.ensures.target) is.node c.args.f is.is in
    let has : HasRead (is_weak c.in-Ok.field.kind) s c.keep_read.new.parts c.target_at-target.result =
    subst (λ (x : Parts). HasRead (is_weak c.in-Ok.field.kind) x c.keep_read.new.parts c.target_at-target.result)
    (ap (λ (x : ObjectsView). record c.field_of.new.parts { objects = x }) c.target_at-target.ensures.same ∙ c.in-Ok.ensures.same) c.keep_read.ensures in
    read_frame (is_weak c.in-Ok.field.kind) s c.keep_read.new.parts c.put.new.self c.args.q c.target_at-target.result (target_of (value_in s.objects.nodes is.node c.args.f))
    c.line_of.result c.requires.ready.tied has read c.put.ensures c.line_of.ensures

pub returns-in-Ok-clause-region : goal.returns-in-Ok-clause-region
returns-in-Ok-clause-region c = c.keep_read.ensures.region ∙ ap (λ (x : Parts). x.region) c.in-Ok.ensures.same
