use Rattle.std.proofs.Common.{◌≡◌, ◌+◌, ◌*◌, ◌<◌, ◌≤◌, ◌⊎◌, ap, inl, inr, arith}
use Rattle.std.proofs.lemmas.Bool.{cases_lt}
use Rattle.gap_bounds.specs.Bodies.{IsPlace, end_of}
use Rattle.gap_bounds.specs.Body.{Body}
use Rattle.page_space.proofs.PlaceBodies.{tells_size}
use Rattle.gap_bounds.specs.BodyPlaces.{two_words}
use Rattle.page_space.proofs.WalkSteps.{edge_after_last, edge_of_page}
use Rattle.page_space.proofs.FoundKept.{found_same}
use Rattle.page_space.proofs.space.Space.edge_from.Goals as goal

pub returns-in-Some-clause-taken : goal.returns-in-Some-clause-taken
returns-in-Some-clause-taken c x low high =
    let found = c.in-Some.ensures.found in
    let start : IsPlace c.args.seat.now.bodies c.in-Some.place = found.0 in
    let b : Body = start.0 in
    let at : b.place ≡ c.in-Some.place = start.2 in
    let sizes = rw c.last_start_by.ensures.view at (tells_size c.last_start_by.new.seat c.in-Some.place c.header_at.result c.header_at.ensures.header) in
    let size_is : c.header_at.result.size ≡ b.size = sizes b start.1 start.2 in
    let before : c.in-Some.place < c.args.at + 1 = found.2 in
    (b, start.1, omega arith, omega (arith, c.max.ensures))

pub returns-in-Some-clause-inside : goal.returns-in-Some-clause-inside
returns-in-Some-clause-inside c =
    let found = c.in-Some.ensures.found in
    let start : IsPlace c.args.seat.now.bodies c.in-Some.place = found.0 in
    let b : Body = start.0 in
    let at : b.place ≡ c.in-Some.place = start.2 in
    let sizes = rw c.last_start_by.ensures.view at (tells_size c.last_start_by.new.seat c.in-Some.place c.header_at.result c.header_at.ensures.header) in
    let size_is : c.header_at.result.size ≡ b.size = sizes b start.1 start.2 in
    let words : c.args.page * (64 * c.blocks-2.result) ≡ c.args.page * c.args.self.now.shape.page_words = ap (λ n. c.args.page * n) c.blocks-2.ensures in
    let from : 64 * (c.args.page * c.blocks-2.result) ≤ c.in-Some.place = found.1 in
    let low : c.args.page * c.args.self.now.shape.page_words ≤ c.in-Some.place = omega arith in
    let high : c.in-Some.place < c.args.at + 1 = found.2 in
    let some : 2 ≤ b.size = two_words c.args.seat.now c.bodies_lie_apart.ensures b start.1 in
    let last : end_of b ≤ (c.args.page + 1) * c.args.self.now.shape.page_words =
    (c.requires.whole b c.in-Some.place start.1 (omega arith) (omega arith) low (omega arith)).1 in
    omega (arith, c.max.ensures)

pub returns-in-Some-clause-edge : goal.returns-in-Some-clause-edge
returns-in-Some-clause-edge c =
    let found = c.in-Some.ensures.found in
    let start : IsPlace c.args.seat.now.bodies c.in-Some.place = found.0 in
    let sizes = rw c.last_start_by.ensures.view at (tells_size c.last_start_by.new.seat c.in-Some.place c.header_at.result c.header_at.ensures.header) in
    let is : (c.max.result ≡ c.args.at) ⊎ (c.max.result ≡ c.in-Some.place + c.header_at.result.size) =
    elim (cases_lt c.args.at (c.in-Some.place + c.header_at.result.size)) [ inl less ↦ inr (omega (arith, c.max.ensures)) | inr more ↦ inl (omega (arith, c.max.ensures)) ] in
    edge_after_last c.args.seat.now c.in-Some.place c.args.at c.header_at.result.size c.max.result c.bodies_lie_apart.ensures start sizes
    (λ p low high. found.3 p low (omega arith)) (omega (arith, c.max.ensures)) (omega (arith, c.max.ensures)) is

pub returns-in-None-clause-edge : goal.returns-in-None-clause-edge
returns-in-None-clause-edge c =
    let words : c.args.page * (64 * c.blocks-2.result) ≡ c.args.page * c.args.self.now.shape.page_words = ap (λ n. c.args.page * n) c.blocks-2.ensures in
    edge_of_page c.args.seat.now c.args.self.now.shape c.args.page c.args.at c.bodies_lie_apart.ensures c.requires.whole c.requires.first c.requires.address
    (λ p low high. c.in-None.ensures.none p (omega arith) (omega arith))

pub returns-in-Some-clause-done : goal.returns-in-Some-clause-done
returns-in-Some-clause-done c a there = c.header_at.ensures.done a (found_same c.last_start_by.ensures.view a there)

pub returns-in-None-clause-done : goal.returns-in-None-clause-done
returns-in-None-clause-done c a there = found_same c.last_start_by.ensures.view a there
