use Rattle.std.proofs.Common.{◌≡◌, ◌+◌, ◌-◌, subst, sym, arith}
use Rattle.gc_graph.specs.Placement.{IsLowest}
use Rattle.gap_bounds.specs.Bodies.{IsPlace}
use Rattle.gap_bounds.specs.Seat.{IsPlaceFrom}
use Rattle.page_space.proofs.space.Space.words_to_next.Goals as goal

pub returns-in-Some-clause-found : goal.returns-in-Some-clause-found
returns-in-Some-clause-found c =
    let step : c.args.at + (c.in-Some.place - c.args.at) ≡ c.in-Some.place = omega (arith, c.in-Some.ensures.found.0.0) in
    subst (IsLowest (IsPlaceFrom c.args.seat.now.bodies c.args.at)) (sym step) c.in-Some.ensures.found

pub returns-in-Some-clause-within : goal.returns-in-Some-clause-within
returns-in-Some-clause-within c = omega (arith, c.in-Some.ensures.found.0.0, c.in-Some.ensures.near, c.requires.order, c.requires.blocks)

pub returns-then-next-reach-clause-found : goal.returns-then-next-reach-clause-found
returns-then-next-reach-clause-found c =
    let step : c.args.at + (c.start_from-next.result - c.args.at) ≡ c.start_from-next.result = omega (arith, c.start_from-next.ensures.low) in
    let start : IsPlace c.args.seat.now.bodies c.start_from-next.result =
    rw c.start_in_block.ensures.view at (c.start_from-next.ensures.start c.if-next-reach.true) in
    let none = rw c.start_in_block.ensures.view at c.start_from-next.ensures.none in
    subst (IsLowest (IsPlaceFrom c.args.seat.now.bodies c.args.at)) (sym step)
    ((c.start_from-next.ensures.low, start), (λ b before place. none b place.0 before place.1))

pub returns-then-next-reach-clause-within : goal.returns-then-next-reach-clause-within
returns-then-next-reach-clause-within c = omega (arith, c.start_from-next.ensures.low, c.if-next-reach.true, c.min-reach.ensures)

pub returns-else-next-reach-clause-none : goal.returns-else-next-reach-clause-none
returns-else-next-reach-clause-none c a low high place =
    (rw c.start_in_block.ensures.view at c.start_from-next.ensures.none) a low (omega (arith, c.if-next-reach.false, c.min-reach.ensures)) place
