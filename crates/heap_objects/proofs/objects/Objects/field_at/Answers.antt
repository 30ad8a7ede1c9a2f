use Rattle.std.specs.Arc.{arc_value}
use Rattle.std.proofs.Common.{◌-◌, ◌<◌, List, length, arith, refl, sym, subst}
use Rattle.gc_graph.specs.State.{Setup, Node, ObjectType}
use Rattle.heap_objects.specs.Fields.{allows}
use Rattle.heap_objects.specs.FieldPlaces.{IsHead, live_place, live_head, extra_is, field_answered}
use Rattle.heap_objects.proofs.objects.Objects.field_at.Goals as goal

pub header_at-header-requires-clause-start : goal.header_at-header-requires-clause-start
header_at-header-requires-clause-start c =
    let there = rw (← c.self.view_is) at c.requires.place in
    live_place c.self.inside.nodes.value c.self.inside.seat there.0 c.args.place c.self.invariant.held.bodies there.1

pub size_of-requires-clause-ty : goal.size_of-requires-clause-ty
size_of-requires-clause-ty c =
    let there = rw (← c.self.view_is) at c.requires.place in
    let head = live_head _ c.self.inside.nodes.value c.self.inside.seat there.0 c.args.place c.header_at-header.result (rw (← c.self.view_is) at c.requires.valid)
    c.self.invariant.held.bodies there.1 c.header_at-header.ensures.header in
    subst (λ (ts : List ObjectType). c.header_at-header.result.ty < length ts) (sym c.deref.ensures) head.known

pub overflow_sub-extra : goal.overflow_sub-extra
overflow_sub-extra c =
    let there = rw (← c.self.view_is) at c.requires.place in
    let head = live_head _ c.self.inside.nodes.value c.self.inside.seat there.0 c.args.place c.header_at-header.result (rw (← c.self.view_is) at c.requires.valid)
    c.self.invariant.held.bodies there.1 c.header_at-header.ensures.header in
    omega (arith, head.size_is, rw (c.deref.ensures) at c.size_of.ensures.size)

pub field_at-requires-clause-ty : goal.field_at-requires-clause-ty
field_at-requires-clause-ty c =
    let there = rw (← c.self.view_is) at c.requires.place in
    let head = live_head _ c.self.inside.nodes.value c.self.inside.seat there.0 c.args.place c.header_at-header.result (rw (← c.self.view_is) at c.requires.valid)
    c.self.invariant.held.bodies there.1 c.header_at-header.ensures.header in
    subst (λ (ts : List ObjectType). c.header_at-header.result.ty < length ts) (sym c.deref-2.ensures) head.known

pub returns-clause-field : goal.returns-clause-field
returns-clause-field c =
    let setup : Setup = record { shape = c.self.inside.space.shape; markers = c.self.inside.grey.crew.markers; types = (arc_value c.self.inside.types); callbacks = c.self.inside.kinds.value } in
    let nodes : List Node = c.self.inside.nodes.value in
    rw (← c.self.view_is) (λ n at.
    let head : IsHead setup nodes n c.header_at-header.result.size c.header_at-header.result.ty =
    live_head setup nodes c.self.inside.seat n c.args.place c.header_at-header.result (rw (← c.self.view_is) at c.requires.valid) c.self.invariant.held.bodies
    at c.header_at-header.ensures.header in
    field_answered setup nodes n c.args.place c.args.f c.header_at-header.result.size c.header_at-header.result.ty (c.header_at-header.result.size - c.size_of.result)
    (allows c.args.wanted) c.field_at.result c.wanted_field.result head
    (extra_is setup nodes n c.header_at-header.result.size c.header_at-header.result.ty c.size_of.result (c.header_at-header.result.size - c.size_of.result) head (rw (c.deref.ensures) at c.size_of.ensures.size) refl)
    at.1 (rw (c.deref-2.ensures) at c.field_at.ensures) c.wanted_field.ensures)
