use Rattle.ephemerons.proofs.MarkSteps.{may_place, may_small}
use Rattle.ephemerons.proofs.marks.mark_named.Goals as goal

pub place_named-requires-clause-small : goal.place_named-requires-clause-small
place_named-requires-clause-small g c = may_small c.args.seat.now c.args.reference c.bodies_lie_apart.ensures c.requires.on c.requires.may

pub mark_unlisted-requires-clause-place : goal.mark_unlisted-requires-clause-place
mark_unlisted-requires-clause-place g c =
    may_place c.args.seat.now c.place_named.result c.bodies_lie_apart.ensures c.requires.on (c.requires.may c.place_named.result c.place_named.ensures)
