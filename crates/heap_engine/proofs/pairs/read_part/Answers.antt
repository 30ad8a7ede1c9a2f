use Rattle.std.proofs.Common.{◌≡◌, ℕ, true, IfSome, sym, ap, ◌∙◌, subst}
use Rattle.gc_graph.specs.Fields.{target_of, is_pair}
use Rattle.heap_cycle.specs.declared.parts.Parts.{Parts}
use Rattle.heap_cycle.specs.Fields.{part_in}
use Rattle.heap_cycle.specs.Objects.{target_in, IsLiveAt, ObjectsView}
use Rattle.heap_engine.specs.FieldSteps.{HasRead}
use Rattle.heap_engine.proofs.FieldAnswers.{Found, found, field_kind}
use Rattle.heap_engine.proofs.PairAnswers.{part_live, step_part}
use Rattle.heap_engine.proofs.SlotReads.{target_live, weak_read, read_frame}
use Rattle.heap_cycle.specs.Ties.{valid_nodes}
use Rattle.heap_engine.proofs.pairs.read_part.Goals as goal

-- the pair that was asked for
is_found : (c : goal.After-part_at-arg-1) → Found is_pair c.args.parts.now c.args.p c.args.f c.in-Ok.field
is_found c = found is_pair c.args.parts.now c.args.p c.args.f c.in-Ok.field c.requires.ready c.in-Ok.ensures.field

pub part_at-target-requires-clause-valid : goal.part_at-target-requires-clause-valid
part_at-target-requires-clause-valid c = rw c.in-Ok.ensures.same (valid_nodes c.args.parts.now c.requires.ready)

pub part_at-target-requires-clause-field : goal.part_at-target-requires-clause-field
part_at-target-requires-clause-field c =
    let is : Found is_pair c.args.parts.now c.args.p c.args.f c.in-Ok.field = is_found c in
    rw c.in-Ok.ensures.same (is.node, c.args.f, is.is)

pub part_at-target-requires-clause-pair : goal.part_at-target-requires-clause-pair
part_at-target-requires-clause-pair c = field_kind is_pair c.args.parts.now c.args.p c.args.f c.in-Ok.field (is_found c)

-- the object that was read is there
pub read_weakly-requires-clause-target : goal.read_weakly-requires-clause-target
read_weakly-requires-clause-target c =
    let s : Parts = c.args.parts.now in
    let is : Found is_pair s c.args.p c.args.f c.in-Ok.field = found is_pair s c.args.p c.args.f c.in-Ok.field c.requires.ready c.in-Ok.ensures.field in
    let same : c.part_at-target.new.self ≡ s.objects = c.part_at-target.ensures.same ∙ ap (λ (x : Parts). x.objects) c.in-Ok.ensures.same in
    let read : c.part_at-target.result ≡ target_in s.objects.nodes (part_in c.args.part s.objects.nodes is.node c.args.f) =
    (rw c.in-Ok.ensures.same at c.part_at-target.ensures.target) is.node c.args.f is.is in
    subst (λ (o : ObjectsView). IfSome c.part_at-target.result (λ (t : ℕ × ℕ). IsLiveAt o.nodes t.1 t.0)) (sym same)
    (target_live s.objects.nodes (part_in c.args.part s.objects.nodes is.node c.args.f) c.part_at-target.result
    (part_live s c.args.p c.args.f c.args.part c.in-Ok.field c.requires.ready is) read)

-- it was read weakly
has_read : (c : goal.After-line_of) → HasRead true c.args.parts.now c.read_weakly.new.parts c.part_at-target.result
has_read c =
    let before : Parts = record c.field_of.new.parts { objects = c.part_at-target.new.self } in
    subst (λ (x : Parts). HasRead true x c.read_weakly.new.parts c.part_at-target.result)
    (ap (λ (x : ObjectsView). record c.field_of.new.parts { objects = x }) c.part_at-target.ensures.same ∙ c.in-Ok.ensures.same)
    (weak_read before c.read_weakly.new.parts c.part_at-target.result c.read_weakly.ensures.state c.read_weakly.ensures.tied c.read_weakly.ensures.nodes c.read_weakly.ensures.setup
    c.read_weakly.ensures.grey c.read_weakly.ensures.others c.read_weakly.ensures.ordinal)

pub returns-in-Ok-clause-step : goal.returns-in-Ok-clause-step
returns-in-Ok-clause-step c =
    let s : Parts = c.args.parts.now in
    let is : Found is_pair s c.args.p c.args.f c.in-Ok.field = found is_pair s c.args.p c.args.f c.in-Ok.field c.requires.ready c.in-Ok.ensures.field in
    let read : c.part_at-target.result ≡ target_in s.objects.nodes (part_in c.args.part s.objects.nodes is.node c.args.f) =
    (rw c.in-Ok.ensures.same at c.part_at-target.ensures.target) is.node c.args.f is.is in
    step_part s c.read_weakly.new.parts c.put.new.self c.args.p c.args.f c.args.q c.args.part c.in-Ok.field c.part_at-target.result c.line_of.result c.requires.ready is read
    c.line_of.ensures (has_read c) c.put.ensures

pub returns-in-Ok-clause-frame : goal.returns-in-Ok-clause-frame
returns-in-Ok-clause-frame c =
    let s : Parts = c.args.parts.now in
    let is : Found is_pair s c.args.p c.args.f c.in-Ok.field = found is_pair s c.args.p c.args.f c.in-Ok.field c.requires.ready c.in-Ok.ensures.field in
    let read : c.part_at-target.result ≡ target_in s.objects.nodes (part_in c.args.part s.objects.nodes is.node c.args.f) =
    (rw c.in-Ok.ensures.same at c.part_at-target.ensures.target) is.node c.args.f is.is in
    read_frame true s c.read_weakly.new.parts c.put.new.self c.args.q c.part_at-target.result (target_of (part_in c.args.part s.objects.nodes is.node c.args.f)) c.line_of.result
    c.requires.ready.tied (has_read c) read c.put.ensures c.line_of.ensures
