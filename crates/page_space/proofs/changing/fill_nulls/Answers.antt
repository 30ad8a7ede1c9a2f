use Rattle.std.proofs.Common.{◌≡◌, ℕ, ◌+◌, ◌-◌, ◌≤◌, ◌<◌, List, ap, ◌∙◌, sym, subst, arith}
use Rattle.gap_bounds.specs.Bodies.{IsInBody}
use Rattle.gap_bounds.specs.Body.{Body}
use Rattle.gap_bounds.specs.Seat.{SeatView}
use Rattle.page_space.specs.Occupying.{nulled, turn_words}
use Rattle.page_space.proofs.OccupyFilled.{nulled_none, nulled_more, only_nulled}
use Rattle.page_space.proofs.changing.fill_nulls.Goals as goal
use Rattle.page_space.proofs.changing.fill_nulls.Goals.{At-loop-x}

-- but for what was filled, the seat is as it was
same_but_filled : (c : At-loop-x) → c.loop-x.seat ≡ record c.args.seat.now { mutator = record c.args.seat.now.mutator { filled = (nulled c.args.seat.now c.args.first (c.loop-x.x - c.args.first)).filled } }
same_but_filled c = c.loop-x.invariant.seat ∙ only_nulled c.args.seat.now c.args.first (c.loop-x.x - c.args.first)

same_heap : (c : At-loop-x) → c.loop-x.seat.heap ≡ c.args.words.now
same_heap c = ap (λ (v : SeatView). v.heap) (same_but_filled c) ∙ c.requires.heap

same_count : (c : At-loop-x) → c.loop-x.seat.count ≡ c.args.seat.now.count
same_count c = ap (λ (v : SeatView). v.count) (same_but_filled c)

outside : (c : At-loop-x) (x : ℕ) → c.loop-x.x ≤ x → x < c.args.end → IsInBody c.loop-x.seat.bodies x → ⊥
outside c x low high word =
    c.requires.outside x (omega (arith, c.loop-x.invariant.low, low)) high
    (subst (λ (bodies : List Body). IsInBody bodies x) (ap (λ (v : SeatView). v.bodies) (same_but_filled c)) word)

pub loop-x-init : goal.loop-x-init
loop-x-init c = record { seat = nulled_none c.args.seat.now c.args.first; low = omega arith; high = c.requires.order }

pub fill_turn-requires-clause-heap : goal.fill_turn-requires-clause-heap
fill_turn-requires-clause-heap c = same_heap c.before.before

pub fill_turn-requires-clause-end : goal.fill_turn-requires-clause-end
fill_turn-requires-clause-end c = omega (arith, c.loop-x-test.true, c.requires.end, same_count c.before.before)

pub fill_turn-requires-clause-outside : goal.fill_turn-requires-clause-outside
fill_turn-requires-clause-outside c x low high = outside c.before.before x low (omega (arith, high, c.loop-x-test.true))

pub loop-x-preserved : goal.loop-x-preserved
loop-x-preserved c = record {
  seat = c.fill_turn.ensures ∙ nulled_more c.args.seat.now c.loop-x.seat c.args.first c.loop-x.x 8 c.loop-x.invariant.low c.loop-x.invariant.seat;
  low = omega (arith, c.loop-x.invariant.low);
  high = omega (arith, c.loop-x-test.true);
}

pub fill_rest-requires-clause-heap : goal.fill_rest-requires-clause-heap
fill_rest-requires-clause-heap c = same_heap c.before.before

pub fill_rest-requires-clause-end : goal.fill_rest-requires-clause-end
fill_rest-requires-clause-end c = omega (arith, c.requires.end, same_count c.before.before)

pub fill_rest-requires-clause-outside : goal.fill_rest-requires-clause-outside
fill_rest-requires-clause-outside c x low high = outside c.before.before x low high

pub returns : goal.returns
returns c =
    let more = nulled_more c.args.seat.now c.loop-x.seat c.args.first c.loop-x.x (c.args.end - c.loop-x.x) c.loop-x.invariant.low c.loop-x.invariant.seat in
    let all : c.loop-x.x + (c.args.end - c.loop-x.x) - c.args.first ≡ c.args.end - c.args.first = omega (arith, c.loop-x.invariant.high) in
    c.fill_rest.ensures ∙ more ∙ ap (nulled c.args.seat.now c.args.first) all
