use Rattle.std.proofs.Common.{sym, ◌∙◌, subst}
use Rattle.marker_core.specs.Bodies.{IsPlace}
use Rattle.page_words.specs.Seat.{SeatView}
use Rattle.marking_trials.proofs.barriers.marks.Goals as goal

pub header_at-requires-2-clause-start : goal.header_at-requires-2-clause-start
header_at-requires-2-clause-start c = subst (λ (v : SeatView). IsPlace v.bodies c.args.three.now.second) (sym c.header_at.ensures.view) c.requires.second

pub header_at-requires-3-clause-start : goal.header_at-requires-3-clause-start
header_at-requires-3-clause-start c =
    subst (λ (v : SeatView). IsPlace v.bodies c.args.three.now.third) (sym (c.header_at-2.ensures.view ∙ c.header_at.ensures.view)) c.requires.third
