use Rattle.std.proofs.Common.{subst}
use Rattle.std.specs.List.{Contains}
use Rattle.page_words.specs.Seat.{SeatView}
use Rattle.marking_trials.proofs.small_heap.put.Goals as goal

pub occupy-requires-clause-number : goal.occupy-requires-clause-number
occupy-requires-clause-number c b there = c.requires.number b (subst (λ (v : SeatView). Contains v.bodies b) c.find_empty.ensures.view there)
