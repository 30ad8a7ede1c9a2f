use Rattle.std.proofs.Common.{sym, ◌∙◌}
use Rattle.ephemerons.proofs.Holding.{fresh_listed, fresh_lighter, fresh_still}
use Rattle.ephemerons.proofs.marks.mark.Goals as goal

pub returns-clause-marks : goal.returns-clause-marks
returns-clause-marks g c =
    fresh_listed c.args.seat.now c.mark_unlisted-fresh.new.seat c.args.marking.now c.list_held.new.marking c.mark_unlisted-fresh.result
    c.mark_unlisted-fresh.ensures.marks c.list_held.ensures.listed

pub returns-clause-found : goal.returns-clause-found
returns-clause-found g c told =
    fresh_lighter c.args.seat.now c.mark_unlisted-fresh.new.seat c.args.marking.now c.list_held.new.marking c.mark_unlisted-fresh.result
    c.mark_unlisted-fresh.ensures.found c.list_held.ensures.listed (sym c.is_some.ensures ∙ told)

pub returns-clause-still : goal.returns-clause-still
returns-clause-still g c told =
    fresh_still c.args.seat.now c.mark_unlisted-fresh.new.seat c.args.marking.now c.list_held.new.marking c.mark_unlisted-fresh.result
    c.mark_unlisted-fresh.ensures.still c.list_held.ensures.listed (sym c.is_some.ensures ∙ told)
