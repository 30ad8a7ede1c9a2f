use Rattle.std.proofs.Common.{◌≡◌, ◌-◌, ap, ◌∙◌, sym, subst, arith}
use Rattle.gap_bounds.specs.Bodies.{IsInBody}
use Rattle.gap_bounds.specs.Seat.{SeatView}
use Rattle.page_space.specs.Occupying.{nulled}
use Rattle.page_space.proofs.OccupyFilled.{nulled_none, nulled_next, only_nulled}
use Rattle.page_space.proofs.changing.fill_rest.Goals as goal

pub loop-x-init : goal.loop-x-init
loop-x-init c = nulled_none c.args.seat.now c.args.first

pub fill-requires-clause-heap : goal.fill-requires-clause-heap
fill-requires-clause-heap c =
    ap (λ (v : SeatView). v.heap) (c.loop-x.invariant ∙ only_nulled c.args.seat.now c.args.first (c.loop-x.x - c.args.first))
    ∙ c.requires.heap

pub fill-requires-clause-address : goal.fill-requires-clause-address
fill-requires-clause-address c =
    let same = ap (λ (v : SeatView). v.count) (c.loop-x.invariant ∙ only_nulled c.args.seat.now c.args.first (c.loop-x.x - c.args.first)) in
    omega (arith, same, c.loop-x-test.true, c.requires.end)

pub fill-requires-clause-outside : goal.fill-requires-clause-outside
fill-requires-clause-outside c word =
    let same = ap (λ (v : SeatView). v.bodies) (c.loop-x.invariant ∙ only_nulled c.args.seat.now c.args.first (c.loop-x.x - c.args.first)) in
    c.requires.outside c.loop-x.x c.loop-x.auto.x c.loop-x-test.true (subst (λ bodies. IsInBody bodies c.loop-x.x) same word)

pub loop-x-preserved : goal.loop-x-preserved
loop-x-preserved c =
    c.fill.ensures ∙ nulled_next c.args.seat.now c.loop-x.seat c.args.first c.loop-x.x c.loop-x.auto.x c.loop-x.invariant

pub returns : goal.returns
returns c =
    let last = c.loop-x.auto.x-end c.requires.order in
    let all : c.loop-x.x ≡ c.args.end = omega (arith, last, c.loop-x-test.false) in
    c.loop-x.invariant ∙ ap (λ x. nulled c.args.seat.now c.args.first (x - c.args.first)) all
