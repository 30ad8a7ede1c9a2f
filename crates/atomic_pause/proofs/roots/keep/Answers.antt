use Rattle.std.proofs.Common.{sym, ap, subst}
use Rattle.page_words.specs.Seat.{SeatView}
use Rattle.ephemerons.specs.Fixpoint.{ListsMarks}
use Rattle.ephemerons.specs.ListedMarks.{ListsMarks-then, lists_looked}
use Rattle.atomic_pause.specs.Marking.{with_may}
use Rattle.atomic_pause.proofs.roots.keep.Goals as goal

pub returns-clause-marks : goal.returns-clause-marks
returns-clause-marks c =
    let a : SeatView = c.args.seat.now in
    let r : SeatView = c.read_weakly.new.seat in
    subst (λ ms. ListsMarks (with_may a ms) c.args.marking.now c.mark.new.seat c.mark.new.marking) (sym (ap (λ (z : SeatView). z.may) c.mark.ensures.marks.view))
    (ListsMarks-then (with_may a r.may) r c.mark.new.seat c.args.marking.now c.args.marking.now c.mark.new.marking
    (lists_looked (with_may a r.may) r c.args.marking.now c.read_weakly.ensures.view) c.mark.ensures.marks)
