use Rattle.std.proofs.Common.{◌≡◌, arith}
use Rattle.gap_bounds.specs.Bodies.{IsPlace}
use Rattle.gap_bounds.specs.Body.{Body}
use Rattle.page_space.proofs.PlaceBodies.{tells_size}
use Rattle.page_space.proofs.space.Space.start_of.Goals as goal

pub returns-in-Some-clause-found : goal.returns-in-Some-clause-found
returns-in-Some-clause-found c =
    let start : IsPlace c.args.seat.now.bodies c.in-Some.place = c.in-Some.ensures.place in
    let sizes = rw c.only_start_for.ensures.view at (tells_size c.only_start_for.new.seat c.in-Some.place c.header_at.result c.header_at.ensures.header) in
    let size : c.header_at.result.size ≡ start.0.size = sizes start.0 start.1 start.2 in
    let at : start.0.place ≡ c.in-Some.place = start.2 in
    (start.0, start.1, start.2, c.in-Some.ensures.low, omega (arith, c.in-Some.ensures.low))

pub returns-in_default-clause-none : goal.returns-in_default-clause-none
returns-in_default-clause-none c a h =
    let sizes = rw c.only_start_for.ensures.view at (tells_size c.only_start_for.new.seat c.in-Some.place c.header_at.result c.header_at.ensures.header) in
    let same : c.in-Some.place ≡ a = (let only = c.in-Some.ensures.only a h in cc) in
    let b : Body = h.0 in
    let at : b.place ≡ a = h.2 in
    let size : c.header_at.result.size ≡ b.size = sizes b h.1 (cc) in
    omega (arith, h.3, h.4)

pub returns-in_default-2-clause-none : goal.returns-in_default-2-clause-none
returns-in_default-2-clause-none c a h = (let only = c.only_start_for.ensures.only a h in let none = c.in_default.is in cc)
