use Rattle.std.proofs.Common.{◌≡◌, ℕ, ◌+◌, ◌*◌, ◌<◌, ◌≤◌, ap, ◌∙◌, inl, inr, arith}
use Rattle.std.proofs.lemmas.Bool.{cases_lt}
use Rattle.gap_bounds.specs.Bodies.{IsPlace, end_of}
use Rattle.gap_bounds.specs.Body.{Body}
use Rattle.page_space.specs.Space.{HasNoStart, extents_of_bodies}
use Rattle.gap_bounds.specs.Gaps.{IsGap}
use Rattle.page_space.proofs.PlaceBodies.{tells_size}
use Rattle.gap_bounds.specs.Seat.{SeatView, unlooked}
use Rattle.gap_bounds.specs.BodyPlaces.{two_words}
use Rattle.page_space.proofs.Shapes.{shape_words}
use Rattle.page_space.proofs.WalkSteps.{edge_moves, gap_here, gap_ends}
use Rattle.page_space.proofs.FoundKept.{found_same}
use Rattle.page_space.proofs.space.Space.walk.Goals as goal
use Rattle.page_space.proofs.space.Space.walk.Goals.{After-words_to_next, in_default-via-in-Some+else-gap-size, in_default-via-in-None+else-end-walk}

-- words of the size in the page, from the walk on, among which no object starts are a gap
gap_at : (c : After-words_to_next) → HasNoStart c.args.seat.now.bodies c.loop-walk.walk.at (c.loop-walk.walk.at + c.args.size)
    → c.loop-walk.walk.at + c.args.size ≤ (c.args.page + 1) * c.args.self.now.shape.page_words
    → IsGap c.args.self.now.shape (extents_of_bodies c.args.seat.now.bodies) c.args.size c.args.page c.loop-walk.walk.at
gap_at c none high =
    gap_here c.args.seat.now c.args.self.now.shape c.args.size c.args.page c.loop-walk.walk.at c.loop-walk.invariant.edge none
    (omega (arith, c.loop-walk.invariant.low, c.requires.from)) high

pub words_to_next-requires-clause-blocks : goal.words_to_next-requires-clause-blocks
words_to_next-requires-clause-blocks c =
    omega (
      arith,
      ap (λ s. (c.args.page + 1) * s.shape.page_words) c.self.view_is,
      ap (λ n. (c.args.page + 1) * n) (shape_words c.args.self.now.shape c.shape_is_valid.ensures).2,
    )

pub returns-in_default-clause-found : goal.returns-in_default-clause-found
returns-in_default-clause-found c =
    let bodies : c.loop-walk.seat.bodies ≡ c.args.seat.now.bodies = ap (λ (v : SeatView). v.bodies) c.loop-walk.invariant.view in
    let end : (c.args.page + 1) * c.self.inside.page_words ≡ (c.args.page + 1) * c.args.self.now.shape.page_words =
    ap (λ s. (c.args.page + 1) * s.shape.page_words) c.self.view_is in
    let gap : IsGap c.args.self.now.shape (extents_of_bodies c.args.seat.now.bodies) c.args.size c.args.page c.loop-walk.walk.at =
    elim c.in_default.branch [
      | in_default-via-in-Some+else-gap-size w ↦
          let found = rw bodies at w.in-Some.ensures.found in
          gap_at c.before (λ p low high place. found.1 p (omega (arith, w.if-gap-size.false)) (low, place))
          (omega (arith, w.in-Some.ensures.within, w.if-gap-size.false))
      | in_default-via-in-None+else-end-walk w ↦
          let none = rw bodies at w.in-None.ensures.none in
          gap_at c.before (λ p low high place. none p low (omega (arith, w.if-end-walk.false)) place)
          (omega (arith, w.if-end-walk.false))
    ] in (
      (c.loop-walk.invariant.low, c.loop-walk-test.true, gap),
      (λ b before begins. c.loop-walk.invariant.none b begins.0 before begins.2),
    )

pub returns-in-None-clause-none : goal.returns-in-None-clause-none
returns-in-None-clause-none c a begins =
    let end : (c.args.page + 1) * c.self.inside.page_words ≡ (c.args.page + 1) * c.args.self.now.shape.page_words =
    ap (λ s. (c.args.page + 1) * s.shape.page_words) c.self.view_is in
    let last : a + c.args.size ≤ (c.args.page + 1) * c.args.self.now.shape.page_words = begins.2.last in
    elim (cases_lt a c.loop-walk.walk.at) [
      | inl before ↦ c.loop-walk.invariant.none a begins.0 before begins.2
      | inr after ↦ omega (arith, c.if-end-walk.true)
    ]

pub returns-in-None-clause-longest : goal.returns-in-None-clause-longest
returns-in-None-clause-longest c n a begins =
    let end : (c.args.page + 1) * c.self.inside.page_words ≡ (c.args.page + 1) * c.args.self.now.shape.page_words =
    ap (λ s. (c.args.page + 1) * s.shape.page_words) c.self.view_is in
    let last : a + n ≤ (c.args.page + 1) * c.args.self.now.shape.page_words = begins.2.last in
    elim (cases_lt a c.loop-walk.walk.at) [
      | inl before ↦ omega (arith, c.loop-walk.invariant.longest n a begins.0 before begins.2, c.max-walk.ensures)
      | inr after ↦ omega (arith, c.max-walk.ensures)
    ]

pub loop-walk-preserved : goal.loop-walk-preserved
loop-walk-preserved c =
    let at : ℕ = c.loop-walk.walk.at in
    let next : ℕ = at + c.in-Some.gap in
    let end : (c.args.page + 1) * c.self.inside.page_words ≡ (c.args.page + 1) * c.args.self.now.shape.page_words =
    ap (λ s. (c.args.page + 1) * s.shape.page_words) c.self.view_is in
    let bodies : c.loop-walk.seat.bodies ≡ c.args.seat.now.bodies = ap (λ (v : SeatView). v.bodies) c.loop-walk.invariant.view in
    let found = rw bodies at c.in-Some.ensures.found in
    let place : IsPlace c.args.seat.now.bodies next = found.0.1 in
    let inside : next < (c.args.page + 1) * c.args.self.now.shape.page_words = omega (arith, c.in-Some.ensures.within) in
    let none : HasNoStart c.args.seat.now.bodies at next = λ p low high start. found.1 p high (low, start) in
    let b : Body = place.0 in
    let size_is : c.header_at.result.size ≡ b.size =
    rw (ap (λ v. v.bodies) c.words_to_next.ensures.view ∙ bodies) at (tells_size c.words_to_next.new.seat next c.header_at.result c.header_at.ensures.header) b place.1 place.2 in
    let b_at : b.place ≡ next = place.2 in
    let some : 2 ≤ b.size = two_words c.args.seat.now c.bodies_lie_apart.ensures b place.1 in
    let last : end_of b ≤ (c.args.page + 1) * c.args.self.now.shape.page_words =
    (c.requires.whole b next place.1 (omega arith) (omega arith) (omega (arith, c.requires.from, c.loop-walk.invariant.low)) inside).1 in
    let after : ℕ = next + c.header_at.result.size in
    let gap = λ (n x : ℕ). gap_ends c.args.seat.now c.args.self.now.shape n c.args.page next after x b c.bodies_lie_apart.ensures place.1 b_at (omega (arith, size_is)) in
    record {
      view = c.header_at.ensures.view ∙ ap unlooked c.words_to_next.ensures.view ∙ c.loop-walk.invariant.view;
      done = λ x there. c.header_at.ensures.done x (found_same c.words_to_next.ensures.view x (c.loop-walk.invariant.done x there));
      low = omega (arith, c.loop-walk.invariant.low);
      inside = omega (arith, size_is);
      edge = edge_moves c.args.seat.now at next after b c.bodies_lie_apart.ensures c.loop-walk.invariant.edge none place.1 b_at found.0.0 (omega (arith, size_is));
      none = λ x from before begins. elim (cases_lt x at) [
        | inl earlier ↦ c.loop-walk.invariant.none x from earlier begins
        | inr later ↦ elim (gap c.args.size x before begins) [
          | inl ends ↦ omega (arith, c.if-gap-size.true)
          | inr nothing ↦ omega (arith, c.requires.some)
        ]
      ];
      longest = λ n x from before begins. elim (cases_lt x at) [
        | inl earlier ↦ omega (arith, c.loop-walk.invariant.longest n x from earlier begins, c.max-walk-in-loop-walk.ensures)
        | inr later ↦ elim (gap n x before begins) [
          | inl ends ↦ omega (arith, c.max-walk-in-loop-walk.ensures)
          | inr nothing ↦ omega arith
        ]
      ];
    }

pub returns-clause-none : goal.returns-clause-none
returns-clause-none c a begins = c.loop-walk.invariant.none a begins.0 begins.1 begins.2

pub returns-clause-longest : goal.returns-clause-longest
returns-clause-longest c n a begins = c.loop-walk.invariant.longest n a begins.0 begins.1 begins.2

pub returns-in_default-clause-done : goal.returns-in_default-clause-done
returns-in_default-clause-done c a there = found_same c.words_to_next.ensures.view a (c.loop-walk.invariant.done a there)

pub returns-in-None-clause-done : goal.returns-in-None-clause-done
returns-in-None-clause-done c a there = found_same c.words_to_next.ensures.view a (c.loop-walk.invariant.done a there)

pub returns-clause-done : goal.returns-clause-done
returns-clause-done c a there = c.loop-walk.invariant.done a there
