use Rattle.std.specs.Arc.{arc_value}
use Rattle.std.proofs.Common.{◌≡◌, List, [], length, replicate, refl, sym, ap, ◌∙◌, subst}
use Rattle.gc_graph.specs.State.{Node}
use Rattle.mark_worklist.specs.Lists.{ListState}
use Rattle.mark_worklist.specs.declared.marking.Marking.{Marking}
use Rattle.page_words.specs.Markers.{new_marker}
use Rattle.page_words.specs.Seat.{SeatView}
use Rattle.mark_worklist.specs.Shares.{ShareState}
use Rattle.heap_objects.specs.declared.marking.Grey.{Grey}
use Rattle.heap_objects.specs.Crews.{Relists, lent_often}
use Rattle.heap_objects.specs.Marking.{GreyView, grey_of}
use Rattle.heap_objects.specs.Marks.{HasMarking}
use Rattle.heap_objects.proofs.CrewStarted.{grey_started, has_started, many, started_as}
use Rattle.heap_objects.proofs.CrewStays.{crew_is}
use Rattle.heap_objects.proofs.MarksStored.{view_in}
use Rattle.heap_objects.proofs.objects.Objects.start_crew.Goals as goal

pub returns-clause-marks : goal.returns-clause-marks
returns-clause-marks g c =
    let v : SeatView = c.self.inside.seat in
    let grey : Grey = c.self.inside.grey in
    let nodes : List Node = c.self.inside.nodes.value in
    let m : Marking = c.relist.new.marking in
    let shares : List ShareState = c.args.lists.shares.items in
    let kept : Grey = record { marking = m; crew = c.start.new.self; traced = grey.traced; found = c.nowhere.result; since = grey.since; earlier = c.refused_pushes.result } in
    let calm : grey.crew.running ≡ [] = rw (← c.self.view_is) at c.requires.home in
    let relisted : Relists grey.marking.list.items [] (record grey.marking { list = c.args.lists.list }) m =
    subst (λ (l : ListState). Relists l.items [] (record grey.marking { list = c.args.lists.list }) m) c.replace-alone.ensures.value
    (subst (λ (l : ListState). Relists c.replace-alone.result.items [] (record grey.marking { list = l }) m) c.replace-alone.ensures.after c.relist.ensures.relisted) in
    let lists = rw (← c.self.view_is) at c.requires.lists in
    rw (← c.self.view_is) (λ may h.
    subst (λ (k : GreyView). HasMarking may (view_in c.self.inside.space.shape (arc_value c.self.inside.types) c.self.inside.kinds.value nodes c.lend.new.seat k))
    (sym (grey_started v grey kept m c.lend.new.seats.items shares refl c.start.ensures refl c.nowhere.ensures refl c.refused_pushes.ensures
    (c.lend.ensures.seats ∙ ap (λ n. replicate n (new_marker v)) c.markers.ensures.value)))
    (subst (λ (w : SeatView). HasMarking may (view_in c.self.inside.space.shape (arc_value c.self.inside.types) c.self.inside.kinds.value nodes w (started_as v (grey_of grey) shares m)))
    (sym (c.lend.ensures.lent ∙ ap (λ n. lent_often n v) c.markers.ensures.value))
    (has_started v (grey_of grey) c.args.lists.list shares m lists.some calm ((crew_is v (grey_of grey) h.crew).home calm).many lists.shared relisted
    c.self.inside.space.shape (arc_value c.self.inside.types) c.self.inside.kinds.value nodes may h)))

pub returns-clause-running : goal.returns-clause-running
returns-clause-running g c =
    let v : SeatView = c.self.inside.seat in
    let grey : Grey = c.self.inside.grey in
    let m : Marking = c.relist.new.marking in
    let shares : List ShareState = c.args.lists.shares.items in
    let kept : Grey = record { marking = m; crew = c.start.new.self; traced = grey.traced; found = c.nowhere.result; since = grey.since; earlier = c.refused_pushes.result } in
    let calm : grey.crew.running ≡ [] = rw (← c.self.view_is) at c.requires.home in
    let relisted : Relists grey.marking.list.items [] (record grey.marking { list = c.args.lists.list }) m =
    subst (λ (l : ListState). Relists l.items [] (record grey.marking { list = c.args.lists.list }) m) c.replace-alone.ensures.value
    (subst (λ (l : ListState). Relists c.replace-alone.result.items [] (record grey.marking { list = l }) m) c.replace-alone.ensures.after c.relist.ensures.relisted) in
    let lists = rw (← c.self.view_is) at c.requires.lists in
    let marks = rw (← c.self.view_is) at c.requires.marks in
    rw (← c.self.view_is)
    (ap (λ (k : GreyView). length k.running) (grey_started v grey kept m c.lend.new.seats.items shares refl c.start.ensures refl c.nowhere.ensures refl c.refused_pushes.ensures
    (c.lend.ensures.seats ∙ ap (λ n. replicate n (new_marker v)) c.markers.ensures.value))
    ∙ many v (grey_of grey) c.args.lists.list shares m lists.some calm ((crew_is v (grey_of grey) marks.1.crew).home calm).many lists.shared relisted)
