use Rattle.std.proofs.Common.{◌≡◌, drop, sym, ap, subst}
use Rattle.std.specs.List.{All}
use Rattle.page_words.specs.Markers.{MarkerSeatView}
use Rattle.page_words.specs.Seat.{Heap}
use Rattle.page_space.specs.Space.{heap_of}
use Rattle.marker_crew.specs.Crews.{CrewState, Marker}
use Rattle.marker_crew.specs.Joined.{all_begun}
use Rattle.marking_trials.proofs.NewSeats.{all_new, still_marking}
use Rattle.marking_trials.proofs.crews.start.Goals as goal

pub returns-clause-marking : goal.returns-clause-marking
returns-clause-marking g c =
    still_marking c.args.heap.now.space _ c.args.heap.now.seat c.lent.new.seat c.lent.ensures.heap c.lent.ensures.types c.lent.ensures.on c.lent.ensures.bodies c.requires.marking

pub returns-clause-seats : goal.returns-clause-seats
returns-clause-seats g c =
    let here : Heap = heap_of c.args.heap.now.space in
    subst (All (λ (m : Marker). m.seat.heap ≡ here)) (sym (ap (λ (s : CrewState). s.running) c.start.ensures))
    (all_begun (λ (m : MarkerSeatView). m.heap ≡ here) c.in_ok-seats.seats.items c.args.shares.items (drop 1 c.args.held.now.crew.notes)
    (all_new (λ (m : MarkerSeatView). m.heap ≡ here) 1 c.args.heap.now.seat c.in_ok-seats.seats.items c.in_ok-seats.ensures.made c.requires.marking.heap))
