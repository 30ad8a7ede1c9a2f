use Rattle.std.specs.Arc.{arc_value}
use Rattle.std.proofs.Common.{◌≡◌, ℕ, ◌+◌, ◌<◌, List, sym, subst, arith}
use Rattle.std.proofs.lemmas.Bool.{le-leb}
use Rattle.gc_graph.specs.declared.kind.Value.{Value}
use Rattle.gc_graph.specs.State.{Node}
use Rattle.marker_core.specs.Layout.{stop_at}
use Rattle.page_words.specs.Seat.{SeatView}
use Rattle.heap_objects.specs.Objects.{AreObjects, IsReferenceTo}
use Rattle.heap_objects.specs.FieldReads.{NamesNode, reads_null, reads_node, reference_fits, head_address, head_number, number_fits, reads_target}
use Rattle.heap_objects.proofs.Loaded.{objects_read}
use Rattle.heap_objects.proofs.objects.Objects.named_by.Goals as goal

pub place_in-requires : goal.place_in-requires
place_in-requires c =
    let is = rw (← c.self.view_is) at c.requires.reference in
    reference_fits c.self.inside.nodes.value c.self.inside.seat is.0 c.args.reference c.bodies_lie_apart.ensures c.self.invariant.held.bodies is.1

pub returns-in-None-clause-target : goal.returns-in-None-clause-target
returns-in-None-clause-target c = rw (← c.self.view_is) (λ x is. sym (reads_null c.self.inside.nodes.value x c.args.reference is c.in-None.ensures))

-- the node that the reference names
named_node : (c : goal.After-load-arg-1) (x : Value) → IsReferenceTo c.self.inside.nodes.value x c.args.reference
    → (m : ℕ) × NamesNode c.self.inside.nodes.value c.self.inside.seat x c.args.reference m
named_node c x is =
    reads_node c.self.inside.nodes.value c.self.inside.seat x c.args.reference c.self.invariant.held.bodies is (λ null. omega (arith, null, c.in-Some.ensures))

-- the place that was read lies in the heap
place_inside : (c : goal.After-load-arg-1) → c.args.reference < c.self.inside.seat.count
place_inside c =
    let is = rw (← c.self.view_is) at c.requires.reference in
    let named = named_node c is.0 is.1 in
    head_address c.self.inside.nodes.value c.self.inside.seat is.0 c.args.reference named.0 c.bodies_lie_apart.ensures named.1

pub overflow_add-place : goal.overflow_add-place
overflow_add-place c = omega (arith, place_inside c, c.in-Some.ensures, c.bodies_lie_apart.ensures.count)

pub load-number-requires-clause-address : goal.load-number-requires-clause-address
load-number-requires-clause-address c = omega (arith, place_inside c, c.in-Some.ensures)

pub load-number-requires-clause-allowed : goal.load-number-requires-clause-allowed
load-number-requires-clause-allowed c = le-leb (c.in-Some.place + 1) (stop_at c.self.inside.seat.count) (load-number-requires-clause-address c)

-- the number that was read is that of the node
number_at : (c : goal.After-load-number) (x : Value) → IsReferenceTo c.self.inside.nodes.value x c.args.reference
    → (m : ℕ) × NamesNode c.self.inside.nodes.value c.self.inside.seat x c.args.reference m × (c.load-number.result ≡ m)
number_at c x is =
    let nodes : List Node = c.self.inside.nodes.value in
    let v : SeatView = c.self.inside.seat in
    let named = reads_node nodes v x c.args.reference c.self.invariant.held.bodies is (λ null. omega (arith, null, c.in-Some.ensures)) in (
      named.0,
      named.1,
      head_number nodes v x c.args.reference named.0 (c.in-Some.place + 1) c.load-number.result named.1 (sym c.in-Some.ensures) c.load-number.ensures.word,
    )

pub overflow_cast-number : goal.overflow_cast-number
overflow_cast-number c =
    let is = rw (← c.self.view_is) at c.requires.reference in
    let read = number_at c is.0 is.1 in
    omega (arith, read.2, number_fits c.self.inside.nodes.value read.0 (omega (arith, c.self.invariant.numbers_are, c.self.ranges)) read.1.live)

pub returns-in-Some-clause-target : goal.returns-in-Some-clause-target
returns-in-Some-clause-target c = rw (← c.self.view_is) (λ x is.
    let read = number_at c x is in
    reads_target c.self.inside.nodes.value c.self.inside.seat x c.args.reference read.0 c.in-Some.place c.load-number.result read.1 (sym c.in-Some.ensures) read.2)

pub invariant_of-self : goal.invariant_of-self
invariant_of-self c =
    let o = c.self.inside in
    subst (λ (u : SeatView). AreObjects o.space u (arc_value o.types) o.kinds.value o.made o.nodes.value o.grey) (sym c.load-number.ensures.view)
    (objects_read o.space o.seat (arc_value o.types) o.kinds.value o.made o.nodes.value o.grey (c.in-Some.place + 1) c.load-number.result c.self.invariant)
