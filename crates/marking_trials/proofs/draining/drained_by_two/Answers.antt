use Rattle.std.proofs.Common.{sym, ap, subst}
use Rattle.marker_core.specs.Bodies.{IsPlace}
use Rattle.page_words.specs.Seat.{SeatView}
use Rattle.marking_trials.proofs.draining.drained_by_two.Goals as goal

pub is_other_marked-requires-clause-other : goal.is_other_marked-requires-clause-other
is_other_marked-requires-clause-other g c =
    subst (λ bs. IsPlace bs 256) (sym (ap (λ (v : SeatView). v.bodies) c.join.ensures.view)) c.two_markers-list.ensures.marking.other
