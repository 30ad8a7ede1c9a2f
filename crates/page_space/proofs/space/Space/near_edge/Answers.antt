use Rattle.std.proofs.Common.{◌≡◌, ◌+◌, ◌-◌, ◌*◌, ◌<◌, ◌≤◌, ap, inl, inr, arith}
use Rattle.std.proofs.lemmas.Bool.{cases_lt}
use Rattle.gap_bounds.specs.Bodies.{IsPlace, end_of}
use Rattle.gap_bounds.specs.Body.{Body}
use Rattle.page_space.proofs.PlaceBodies.{tells_size}
use Rattle.page_space.proofs.WalkSteps.{one_in}
use Rattle.page_space.proofs.space.Space.near_edge.Goals as goal

pub returns-in-Some-clause-edge : goal.returns-in-Some-clause-edge
returns-in-Some-clause-edge c =
    let v = c.args.seat.now in
    let found = c.in-Some.ensures.found in
    let start : IsPlace v.bodies c.in-Some.place = found.0 in
    let b : Body = start.0 in
    let at : b.place ≡ c.in-Some.place = start.2 in
    let sizes = rw c.last_start_by.ensures.view at (tells_size c.last_start_by.new.seat c.in-Some.place c.header_at.result c.header_at.ensures.header) in
    let size_is : c.header_at.result.size ≡ b.size = sizes b start.1 start.2 in
    let some : 0 < c.args.a = omega (arith, c.if-a-start.false, c.requires.first, ap (λ s. c.args.page * s.shape.page_words) c.self.view_is) in
    let before : c.in-Some.place < c.args.a - 1 + 1 = found.2 in
    let own : Body = c.requires.start.0 in
    let own_at : own.place ≡ c.args.a = c.requires.start.2 in
    let by : end_of b ≤ c.args.a = elim (cases_lt c.args.a (end_of b)) [
      | inl over ↦ absurd (omega (arith, ap (λ (d : Body). d.place) (one_in v own b c.bodies_lie_apart.ensures c.requires.start.1 start.1 (omega arith) (omega arith))))
      | inr ends ↦ ends
    ] in
    (omega arith, inr (b, start.1, omega arith, omega arith))
