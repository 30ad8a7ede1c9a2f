use Rattle.std.proofs.Common.{◌≡◌, ◌<◌, Bool, List, length, not, eqb, true, sym, ap, ◌∙◌, inl, inr, arith}
use Rattle.std.proofs.lemmas.Bool.{true≢false, cases_lt, eq-eqb}
use Rattle.atomic_pause.specs.NodePlaces.{places_differ}
use Rattle.marker_crew.specs.Crews.{Marker}
use Rattle.heap_objects.specs.Marking.{grey_of}
use Rattle.heap_objects.specs.Marks.{GoesOnOrRests, HasMarking}
use Rattle.heap_objects.specs.Objects.{ObjectsView}
use Rattle.heap_objects.proofs.CrewStays.{crew_is}
use Rattle.heap_objects.proofs.Unlooked.{way_is}
use Rattle.heap_objects.proofs.objects.Objects.join_crew.Goals as goal

-- markers run
some_of : (running : List Marker) → not (eqb (length running) 0) ≡ true → 0 < length running
some_of running is = elim (cases_lt 0 (length running)) [
  | inl some ↦ some
  | inr none ↦ (let zero : length running ≡ 0 = omega (arith, none) in absurd (true≢false (sym is ∙ ap not (eq-eqb (length running) 0 zero))))
]

-- markers run only while marking goes on
goes_on : (o : ObjectsView) → 0 < length o.grey.running → GoesOnOrRests o → (may : List Bool) × HasMarking may o
goes_on o some (inl marks) = marks
goes_on o some (inr rest) = absurd (omega (arith, some, ap length rest.clear.none_running))

pub join_if_running-requires-clause-way : goal.join_if_running-requires-clause-way
join_if_running-requires-clause-way g c =
    let running = some_of c.self.inside.grey.crew.running (sym c.is_running.ensures.runs ∙ c.if-is_running.true) in
    let marks = goes_on _ running (rw (← c.self.view_is) at c.requires.marks) in
    way_is c.self.inside.seat c.self.inside.grey.marking (grey_of c.self.inside.grey).notes marks.1.under_way

pub join_if_running-requires-clause-crew : goal.join_if_running-requires-clause-crew
join_if_running-requires-clause-crew g c =
    let running = some_of c.self.inside.grey.crew.running (sym c.is_running.ensures.runs ∙ c.if-is_running.true) in
    let marks = goes_on _ running (rw (← c.self.view_is) at c.requires.marks) in
    crew_is c.self.inside.seat (grey_of c.self.inside.grey) marks.1.crew

pub join_if_running-requires-clause-differ : goal.join_if_running-requires-clause-differ
join_if_running-requires-clause-differ g c = places_differ c.self.inside.nodes.value c.self.inside.seat c.bodies_lie_apart.ensures c.self.invariant.held.bodies
