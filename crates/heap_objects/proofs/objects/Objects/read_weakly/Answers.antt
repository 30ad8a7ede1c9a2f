use Rattle.std.specs.Arc.{arc_value}
use Rattle.std.proofs.Common.{◌≡◌, List, [], ◌∷◌, ◌++◌, true, refl, sym, subst}
use Rattle.gc_graph.specs.May.{may_with_read}
use Rattle.gc_graph.specs.State.{Setup, Node, graph_of}
use Rattle.marker_core.specs.declared.states.Why.TheVariants.{Weak}
use Rattle.marker_core.specs.Laws.{IsLeastOver}
use Rattle.page_words.specs.PlaceTests.{test_of_place}
use Rattle.page_words.specs.Roles.{kind_lists}
use Rattle.page_words.specs.Seat.{SeatView, loaded}
use Rattle.heap_objects.specs.FieldPlaces.{live_place}
use Rattle.heap_objects.specs.Marking.{grey_of}
use Rattle.heap_objects.specs.Marks.{HasMarks}
use Rattle.heap_objects.specs.Objects.{AreObjects}
use Rattle.heap_objects.proofs.Loaded.{objects_read_weakly}
use Rattle.heap_objects.proofs.MarksRead.{marks_read}
use Rattle.heap_objects.proofs.MarksStored.{view_in}
use Rattle.heap_objects.proofs.objects.Objects.read_weakly.Goals as goal

pub load-requires-clause-allowed : goal.load-requires-clause-allowed
load-requires-clause-allowed c =
    let v : SeatView = c.self.inside.seat in
    let at = rw (← c.self.view_is) at c.requires.place in
    test_of_place v.bodies c.args.place (live_place c.self.inside.nodes.value v at.0 c.args.place c.self.invariant.held.bodies at.1)

pub invariant_of-self : goal.invariant_of-self
invariant_of-self c =
    let o = c.self.inside in
    subst (λ (u : SeatView). AreObjects o.space u (arc_value o.types) o.kinds.value o.made o.nodes.value o.grey) (sym c.load.ensures.view)
    (objects_read_weakly o.space o.seat (arc_value o.types) o.kinds.value o.made o.nodes.value o.grey c.args.place c.load.result c.self.invariant)

pub returns-clause-marks : goal.returns-clause-marks
returns-clause-marks c =
    let v : SeatView = c.self.inside.seat in
    let nodes : List Node = c.self.inside.nodes.value in
    let setup : Setup = record { shape = c.self.inside.space.shape; markers = c.self.inside.grey.crew.markers; types = (arc_value c.self.inside.types); callbacks = c.self.inside.kinds.value } in
    let w : SeatView = loaded v c.args.place Weak c.load.result in
    let weak : v.on ≡ true → IsLeastOver (kind_lists v.types) v.bodies (v.may ++ c.args.place ∷ []) w.may = λ on.
    subst (λ (u : SeatView). IsLeastOver (kind_lists v.types) v.bodies (v.may ++ c.args.place ∷ []) u.may) c.load.ensures.view (c.load.ensures.weak refl on) in
    rw (← c.self.view_is) (λ phase limit may n is.
    subst (λ (u : SeatView). HasMarks phase limit may (view_in c.self.inside.space.shape (arc_value c.self.inside.types) c.self.inside.kinds.value nodes v (grey_of c.self.inside.grey))
    → HasMarks phase limit (may_with_read phase (graph_of nodes) may n) (view_in c.self.inside.space.shape (arc_value c.self.inside.types) c.self.inside.kinds.value nodes u (grey_of c.self.inside.grey)))
    (sym c.load.ensures.view)
    (marks_read setup nodes v (grey_of c.self.inside.grey) c.bodies_lie_apart.ensures (rw (← c.self.view_is) at c.requires.valid) c.self.invariant.held c.self.invariant.known
    c.reach_is_least.ensures c.args.place c.load.result n is.0 is.1 weak c.self.inside.kinds.value phase limit may))
