use Rattle.std.proofs.Common.{ap, ◌∙◌}
use Rattle.page_words.specs.Seat.{SeatView}
use Rattle.marking_trials.proofs.NewSeats.{lent_marking, new_seat}
use Rattle.marking_trials.proofs.draining.two_markers.Goals as goal

pub returns-clause-marking : goal.returns-clause-marking
returns-clause-marking c =
    lent_marking c.args.heap.now.space _ c.split-other.new.seat c.split-idle.new.seat c.split-idle.ensures.view
    (lent_marking c.args.heap.now.space _ c.split-one.new.seat c.split-other.new.seat c.split-other.ensures.view
    (lent_marking c.args.heap.now.space _ c.args.heap.now.seat c.split-one.new.seat c.split-one.ensures.view c.requires))

pub returns-clause-one : goal.returns-clause-one
returns-clause-one c =
    new_seat c.args.heap.now.seat c.split-idle.new.seat c.split-one.result c.split-one.ensures.marker
    (ap (λ (v : SeatView). v.heap) c.split-idle.ensures.view ∙ ap (λ (v : SeatView). v.heap) c.split-other.ensures.view ∙ ap (λ (v : SeatView). v.heap) c.split-one.ensures.view)
    (ap (λ (v : SeatView). v.types) c.split-idle.ensures.view ∙ ap (λ (v : SeatView). v.types) c.split-other.ensures.view ∙ ap (λ (v : SeatView). v.types) c.split-one.ensures.view)

pub returns-clause-other : goal.returns-clause-other
returns-clause-other c =
    new_seat c.split-one.new.seat c.split-idle.new.seat c.split-other.result c.split-other.ensures.marker
    (ap (λ (v : SeatView). v.heap) c.split-idle.ensures.view ∙ ap (λ (v : SeatView). v.heap) c.split-other.ensures.view)
    (ap (λ (v : SeatView). v.types) c.split-idle.ensures.view ∙ ap (λ (v : SeatView). v.types) c.split-other.ensures.view)

pub returns-clause-idle : goal.returns-clause-idle
returns-clause-idle c =
    new_seat c.split-other.new.seat c.split-idle.new.seat c.split-idle.result c.split-idle.ensures.marker (ap (λ (v : SeatView). v.heap) c.split-idle.ensures.view)
    (ap (λ (v : SeatView). v.types) c.split-idle.ensures.view)
