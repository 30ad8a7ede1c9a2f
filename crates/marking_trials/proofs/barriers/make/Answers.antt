use Rattle.std.proofs.Common.{subst, arith}
use Rattle.std.specs.List.{Contains}
use Rattle.page_words.specs.Seat.{SeatView}
use Rattle.page_space.specs.Occupying.{Occupies, new_body}
use Rattle.marking_trials.proofs.Young.{young_made, made_there}
use Rattle.marking_trials.proofs.barriers.make.Goals as goal

pub occupy-requires-clause-number : goal.occupy-requires-clause-number
occupy-requires-clause-number c b there same =
    let before = c.requires.young.fresh b (subst (λ (v : SeatView). Contains v.bodies b) c.find_empty.ensures.view there) in
    omega (arith, before.1, same)

pub returns-clause-young : goal.returns-clause-young
returns-clause-young c =
    young_made c.args.space.now c.occupy.new.self c.args.seat.now c.occupy.new.seat c.in_ok-place.place c.args.number c.requires.young
    (subst (λ (v : SeatView). Occupies v c.occupy.new.seat (new_body c.in_ok-place.place 0 5 c.args.number)) c.find_empty.ensures.view c.occupy.ensures.occupied)
    c.occupy.ensures.space

pub returns-clause-made : goal.returns-clause-made
returns-clause-made c =
    made_there c.find_empty.new.seat c.occupy.new.seat (new_body c.in_ok-place.place 0 5 c.args.number) c.occupy.ensures.occupied
