use Rattle.std.specs.Arc.{arc_value}
use Rattle.std.proofs.Common.{◌≡◌, ◌+◌, ℕ, List, sym, ap, subst, arith}
use Rattle.gc_graph.specs.State.{Node}
use Rattle.page_words.specs.Seat.{SeatView}
use Rattle.marker_crew.specs.Marking.{traced_count}
use Rattle.atomic_pause.specs.NodePlaces.{places_differ}
use Rattle.heap_objects.specs.Marking.{GreyView, grey_of}
use Rattle.heap_objects.specs.Marks.{HasMarking}
use Rattle.heap_objects.proofs.MarksStored.{view_in}
use Rattle.heap_objects.proofs.CrewStays.{crew_is}
use Rattle.heap_objects.proofs.MarksStepped.{traced_few, has_stepped}
use Rattle.heap_objects.proofs.Unlooked.{way_is}
use Rattle.heap_objects.proofs.objects.Objects.step.Goals as goal

pub step-traced-requires-clause-way : goal.step-traced-requires-clause-way
step-traced-requires-clause-way c =
    let marks = rw (← c.self.view_is) at c.requires.marks in
    way_is c.self.inside.seat c.self.inside.grey.marking (grey_of c.self.inside.grey).notes marks.1.under_way

pub step-traced-requires-clause-crew : goal.step-traced-requires-clause-crew
step-traced-requires-clause-crew c =
    let marks = rw (← c.self.view_is) at c.requires.marks in
    crew_is c.self.inside.seat (grey_of c.self.inside.grey) marks.1.crew

pub step-traced-requires-clause-differ : goal.step-traced-requires-clause-differ
step-traced-requires-clause-differ c = places_differ c.self.inside.nodes.value c.self.inside.seat c.bodies_lie_apart.ensures c.self.invariant.held.bodies

pub step-traced-requires-clause-pushes : goal.step-traced-requires-clause-pushes
step-traced-requires-clause-pushes c = (rw (← c.self.view_is) at c.requires.marks).1.pushes_told

pub overflow_add-self : goal.overflow_add-self
overflow_add-self c =
    let v : SeatView = c.self.inside.seat in
    let w : SeatView = c.step-traced.new.seat in
    let marks = rw (← c.self.view_is) at c.requires.marks in
    let stepped = c.step-traced.ensures.stepped in
    let before : traced_count v ≡ c.self.inside.grey.traced = marks.1.counted in
    let same : (grey_of c.step-traced.new.grey).traced ≡ c.self.inside.grey.traced = ap (λ (k : GreyView). k.traced) stepped.rest in
    omega (arith, stepped.counted, before, same, traced_few v w c.objects-objects.result stepped.same.bodies (c.objects-objects.ensures v c.self.invariant.laid), c.objects-objects.type_inv)

pub returns-clause-marks : goal.returns-clause-marks
returns-clause-marks c =
    let v : SeatView = c.self.inside.seat in
    let w : SeatView = c.step-traced.new.seat in
    let nodes : List Node = c.self.inside.nodes.value in
    let k : GreyView = grey_of c.step-traced.new.grey in
    rw (← c.self.view_is) (λ may h.
    subst (λ (n : ℕ). HasMarking may (view_in c.self.inside.space.shape (arc_value c.self.inside.types) c.self.inside.kinds.value nodes w (record k { traced = n })))
    (sym (ap (λ (x : GreyView). x.traced + c.step-traced.result) c.step-traced.ensures.stepped.rest))
    (has_stepped c.self.inside.space.shape (arc_value c.self.inside.types) c.self.inside.kinds.value nodes v w (grey_of c.self.inside.grey) k c.step-traced.result may
    c.step-traced.ensures.stepped h))
