use Rattle.std.proofs.Common.{◌≡◌, ℕ, ◌+◌, ◌-◌, ap, ◌∙◌, sym, subst, arith}
use Rattle.gap_bounds.specs.Bodies.{IsInBody}
use Rattle.gap_bounds.specs.Seat.{SeatView}
use Rattle.page_space.specs.Occupying.{nulled}
use Rattle.page_space.proofs.OccupyFilled.{nulled_start, nulled_suc, only_nulled}
use Rattle.page_space.proofs.changing.fill_turn.Goals as goal

pub loop-i-init : goal.loop-i-init
loop-i-init c = nulled_start c.args.seat.now c.args.first

pub overflow_add-first : goal.overflow_add-first
overflow_add-first c = omega (arith, c.requires.fits, c.loop-i-test.true)

pub fill-requires-clause-heap : goal.fill-requires-clause-heap
fill-requires-clause-heap c =
    ap (λ (v : SeatView). v.heap) (c.loop-i.invariant ∙ only_nulled c.args.seat.now c.args.first c.loop-i.i) ∙ c.requires.heap

pub fill-requires-clause-address : goal.fill-requires-clause-address
fill-requires-clause-address c =
    let same = ap (λ (v : SeatView). v.count) (c.loop-i.invariant ∙ only_nulled c.args.seat.now c.args.first c.loop-i.i) in
    omega (arith, same, c.loop-i-test.true, c.requires.end)

pub fill-requires-clause-outside : goal.fill-requires-clause-outside
fill-requires-clause-outside c word =
    let same = ap (λ (v : SeatView). v.bodies) (c.loop-i.invariant ∙ only_nulled c.args.seat.now c.args.first c.loop-i.i) in
    c.requires.outside (c.args.first + c.loop-i.i) (omega arith) (omega (arith, c.loop-i-test.true))
    (subst (λ bodies. IsInBody bodies (c.args.first + c.loop-i.i)) same word)

pub loop-i-preserved : goal.loop-i-preserved
loop-i-preserved c = c.fill.ensures ∙ nulled_suc c.args.seat.now c.loop-i.seat c.args.first c.loop-i.i c.loop-i.invariant

pub returns : goal.returns
returns c =
    let all : c.loop-i.i ≡ 8 = omega (arith, c.loop-i-test.false, c.loop-i.auto) in
    c.loop-i.invariant ∙ ap (nulled c.args.seat.now c.args.first) all
