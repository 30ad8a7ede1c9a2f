use Rattle.std.proofs.Common.{rules, ◌≡◌, ◌+◌, ◌^◌, ◌<◌, refl, sym, subst, arith}
use Rattle.std.proofs.lemmas.List.Elements.{All-contains}
use Rattle.gap_bounds.specs.Bodies.{IsPlace}
use Rattle.gap_bounds.specs.Body.{Body}
use Rattle.gap_bounds.specs.BodyPlaces.{two_words, no_place_within}
use Rattle.page_space.proofs.space.Space.serial_at.Goals as goal

pub overflow_cast-result : goal.overflow_cast-result
overflow_cast-result c =
    let small = All-contains (λ (b : Body). b.serial < 2 ^ 32) c.args.seat.now.bodies c.requires.start.0 c.requires.serials c.requires.start.1 in
    let word : c.load.result ≡ c.requires.start.0.serial =
    c.load.ensures.word.serial c.requires.start.0 c.requires.start.1 (omega (arith, c.requires.start.2)) in
    let low : c.load.result < 2 ^ 32 = omega (arith, small, word) in
    search rules

pub returns-clause-view : goal.returns-clause-view
returns-clause-view c =
    let v = c.args.seat.now in
    let b : Body = c.requires.start.0 in
    c.load.ensures.beside refl
    (λ at. no_place_within v b 1 c.bodies_lie_apart.ensures c.requires.start.1 (omega arith)
    (omega (arith, two_words v c.bodies_lie_apart.ensures b c.requires.start.1))
    (subst (λ p. IsPlace v.bodies (p + 1)) (sym c.requires.start.2) at))
