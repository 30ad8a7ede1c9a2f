use Rattle.std.proofs.Common.{◌≡◌, map, drop, refl, sym, ap, ◌∙◌, subst}
use Rattle.std.specs.List.{All}
use Rattle.marker_core.specs.Bodies.{IsPlace}
use Rattle.page_words.specs.Markers.{MarkerSeatView}
use Rattle.page_words.specs.Seat.{SeatView}
use Rattle.marker_crew.specs.Crews.{CrewState, Ending, Marker}
use Rattle.marker_crew.specs.Joined.{all_begun, joined_heap, joined_same}
use Rattle.marking_trials.proofs.NewSeats.{all_new, shares_back}
use Rattle.marking_trials.proofs.crews.run.Goals as goal

pub join-told-requires-clause-same : goal.join-told-requires-clause-same
join-told-requires-clause-same g c =
    let here = c.deref-2.result.now in
    let v : SeatView = c.args.heap.now.seat in
    let heap : v.heap ≡ here = c.requires.marking.heap ∙ sym c.words-3.ensures ∙ sym c.deref-2.ensures in
    subst (All (λ (m : Marker). m.seat.heap ≡ here)) (sym (ap (λ (s : CrewState). s.running) c.start.ensures))
    (all_begun (λ (m : MarkerSeatView). m.heap ≡ here) c.in_ok-seats.seats.items c.args.shares.items (drop 1 c.args.crew.now.notes)
    (all_new (λ (m : MarkerSeatView). m.heap ≡ here) c.args.markers v c.in_ok-seats.seats.items c.in_ok-seats.ensures.made heap))

pub returns-clause-heap : goal.returns-clause-heap
returns-clause-heap g c =
    let joined = c.join-told.ensures.joined in
    ap (λ (w : SeatView). w.heap) joined.seat ∙ joined_heap c.lent.new.seat (map (λ (e : Ending). e.seat) joined.ends) ∙ c.lent.ensures.heap
    ∙ c.requires.marking.heap

pub returns-clause-other : goal.returns-clause-other
returns-clause-other g c =
    let joined = c.join-told.ensures.joined in
    subst (λ bs. IsPlace bs 256)
    (sym (ap (λ (w : SeatView). w.bodies) joined.seat
    ∙ joined_same (λ w. w.bodies) (λ w m. refl) c.lent.new.seat (map (λ (e : Ending). e.seat) joined.ends) ∙ c.lent.ensures.bodies))
    c.requires.marking.other

pub returns-clause-shares : goal.returns-clause-shares
returns-clause-shares g c =
    shares_back c.args.markers c.args.shares.items c.args.heap.now.seat c.in_ok-seats.seats.items c.args.crew.now c.start.new.self c.join-told.new.self
    c.lent.new.seat c.join-told.new.seat c.join-told.result c.requires.shares c.in_ok-seats.ensures.made c.requires.crew c.start.ensures
    c.join-told.ensures.joined
