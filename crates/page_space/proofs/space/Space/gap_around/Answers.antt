use Rattle.std.proofs.Common.{ℕ, ◌+◌, ◌*◌, ◌/◌, ◌^◌, ◌<◌, ◌≤◌, ap, rules, arith}
use Rattle.gc_graph.specs.PageNumbers.{page_before}
use Rattle.gap_bounds.specs.Seat.{SeatView}
use Rattle.page_space.proofs.OpenedGaps.{seated, gaps_opened}
use Rattle.page_space.proofs.space.Space.gap_around.Goals as goal

pub is_known-requires : goal.is_known-requires
is_known-requires c =
    let own = seated c.args.self.now c.args.seat.now c.args.a c.args.size c.shape_is_valid.ensures c.bodies_lie_apart.ensures c.requires.space c.requires.object in
    omega (arith, own.page, c.requires.page, c.self.invariant.gaps, ap (λ s. s.shape.pages) c.self.view_is)

pub near_edge-requires-clause-start : goal.near_edge-requires-clause-start
near_edge-requires-clause-start c =
    (seated c.args.self.now c.args.seat.now c.args.a c.args.size c.shape_is_valid.ensures c.bodies_lie_apart.ensures c.requires.space c.requires.object).start

pub near_edge-requires-clause-first : goal.near_edge-requires-clause-first
near_edge-requires-clause-first c =
    let own = seated c.args.self.now c.args.seat.now c.args.a c.args.size c.shape_is_valid.ensures c.bodies_lie_apart.ensures c.requires.space c.requires.object in
    omega (arith, own.low, ap (λ p. p * c.args.self.now.shape.page_words) c.requires.page)

pub near_edge-requires-clause-address : goal.near_edge-requires-clause-address
near_edge-requires-clause-address c =
    let own = seated c.args.self.now c.args.seat.now c.args.a c.args.size c.shape_is_valid.ensures c.bodies_lie_apart.ensures c.requires.space c.requires.object in
    omega (arith, own.some, own.inside)

pub overflow_add-a : goal.overflow_add-a
overflow_add-a c =
    let own = seated c.args.self.now c.args.seat.now c.args.a c.args.size c.shape_is_valid.ensures c.bodies_lie_apart.ensures c.requires.space c.requires.object in
    let few : c.args.seat.now.count ≤ 2 ^ 24 = c.bodies_lie_apart.ensures.count in
    let fits : c.args.a + c.args.size < 2 ^ 32 = omega (arith, own.inside, c.requires.space.seat) in
    search rules

pub near_start-requires-clause-page : goal.near_start-requires-clause-page
near_start-requires-clause-page c =
    let own = seated c.args.self.now c.args.seat.now c.args.a c.args.size c.shape_is_valid.ensures c.bodies_lie_apart.ensures c.requires.space c.requires.object in
    omega (arith, own.page, c.requires.page)

pub near_start-requires-clause-order : goal.near_start-requires-clause-order
near_start-requires-clause-order c =
    let own = seated c.args.self.now c.args.seat.now c.args.a c.args.size c.shape_is_valid.ensures c.bodies_lie_apart.ensures c.requires.space c.requires.object in
    let small : c.args.size ≤ c.args.self.now.shape.page_words / 2 = omega (arith, c.if-size-self.false, ap (λ s. s.shape.page_words / 2) c.self.view_is) in
    omega (arith, own.high small, ap (λ p. (p + 1) * c.args.self.now.shape.page_words) c.requires.page)

pub returns-clause-gap : goal.returns-clause-gap
returns-clause-gap c =
    let own = seated c.args.self.now c.args.seat.now c.args.a c.args.size c.shape_is_valid.ensures c.bodies_lie_apart.ensures c.requires.space c.requires.object in
    let w : ℕ = c.args.self.now.shape.page_words in
    let small : c.args.size ≤ w / 2 = omega (arith, c.if-size-self.false, ap (λ s. s.shape.page_words / 2) c.self.view_is) in
    gaps_opened c.args.seat.now c.args.self.now.shape c.args.page c.args.a c.args.size c.in_ok-from.from c.in_ok-until.until c.bodies_lie_apart.ensures
    (omega (arith, own.some)) own.one (omega (arith, own.low, ap (λ p. p * w) c.requires.page))
    (omega (arith, own.high small, ap (λ p. (p + 1) * w) c.requires.page)) c.in_ok-from.ensures.edge
    (rw (ap (λ (v : SeatView). v.bodies) c.near_edge.ensures.view) at c.in_ok-until.ensures.end)

pub returns-clause-order : goal.returns-clause-order
returns-clause-order c =
    let own = seated c.args.self.now c.args.seat.now c.args.a c.args.size c.shape_is_valid.ensures c.bodies_lie_apart.ensures c.requires.space c.requires.object in
    let before : c.in_ok-from.from ≤ c.args.a = c.in_ok-from.ensures.edge.0 in
    let after : c.args.a + c.args.size ≤ c.in_ok-until.until = c.in_ok-until.ensures.end.0 in
    omega (arith, own.some)

pub returns-clause-inside : goal.returns-clause-inside
returns-clause-inside c =
    let own = seated c.args.self.now c.args.seat.now c.args.a c.args.size c.shape_is_valid.ensures c.bodies_lie_apart.ensures c.requires.space c.requires.object in
    let by : c.in_ok-until.until ≤ (c.args.page + 1) * c.args.self.now.shape.page_words = c.in_ok-until.ensures.end.1 in
    omega (arith, page_before c.args.self.now.shape.page_words c.args.page c.args.self.now.shape.pages (omega (arith, own.page, c.requires.page)))
