use Rattle.std.proofs.Common.{◌≡◌, ℕ, ◌+◌, ◌-◌, ◌*◌, ◌/◌, ◌^◌, ◌<◌, ◌≤◌, ap, sym, rules, arith}
use Rattle.page_space.specs.Space.{extents_of_bodies}
use Rattle.page_space.proofs.KnownGaps.{had_classes, gaps_opened_in}
use Rattle.page_space.proofs.PageSpan.{page_inside}
use Rattle.gc_graph.specs.PageNumbers.{page_before}
use Rattle.page_space.proofs.Shapes.{shape_words}
use Rattle.page_space.proofs.OpenedGaps.{seated}
use Rattle.page_space.proofs.space.Space.open_gap.Goals as goal

pub open-requires-clause-page : goal.open-requires-clause-page
open-requires-clause-page c =
    let own = seated c.args.self.now c.args.seat.now c.args.a c.args.size c.shape_is_valid.ensures c.bodies_lie_apart.ensures c.requires.space c.requires.object in
    omega (arith, own.page, ap (λ s. c.args.a / s.shape.page_words) c.self.view_is, c.self.invariant.gaps, ap (λ s. s.shape.pages) c.self.view_is)

pub overflow_add-after : goal.overflow_add-after
overflow_add-after c =
    let own = seated c.args.self.now c.args.seat.now c.args.a c.args.size c.shape_is_valid.ensures c.bodies_lie_apart.ensures c.requires.space c.requires.object in
    let few : c.args.seat.now.count ≤ 2 ^ 24 = c.bodies_lie_apart.ensures.count in
    let fits : c.args.a + c.args.size < 2 ^ 32 = omega (arith, own.inside, c.requires.space.seat) in
    search rules

pub overflow_sub-after : goal.overflow_sub-after
overflow_sub-after c =
    let own = seated c.args.self.now c.args.seat.now c.args.a c.args.size c.shape_is_valid.ensures c.bodies_lie_apart.ensures c.requires.space c.requires.object in
    omega (arith, own.some)

pub forget-requires-clause-end : goal.forget-requires-clause-end
forget-requires-clause-end c =
    let own = seated c.args.self.now c.args.seat.now c.args.a c.args.size c.shape_is_valid.ensures c.bodies_lie_apart.ensures c.requires.space c.requires.object in
    let w : ℕ = c.self.inside.page_words in
    let words = shape_words _ c.self.invariant.shape in
    let last : (c.args.a + c.args.size - 1) / w < c.self.inside.pages =
    page_inside w c.self.inside.pages (c.args.a + c.args.size - 1) (omega (arith, words.0))
    (omega (arith, own.inside, own.some, ap (λ s. s.shape.pages * s.shape.page_words) c.self.view_is)) in
    omega (arith, c.self.invariant.gaps)

pub forget-requires-clause-words : goal.forget-requires-clause-words
forget-requires-clause-words c =
    let own = seated c.args.self.now c.args.seat.now c.args.a c.args.size c.shape_is_valid.ensures c.bodies_lie_apart.ensures c.requires.space c.requires.object in
    let w : ℕ = c.self.inside.page_words in
    let words = shape_words _ c.self.invariant.shape in
    let last : (c.args.a + c.args.size - 1) / w < c.self.inside.pages =
    page_inside w c.self.inside.pages (c.args.a + c.args.size - 1) (omega (arith, words.0))
    (omega (arith, own.inside, own.some, ap (λ s. s.shape.pages * s.shape.page_words) c.self.view_is)) in
    let few : c.args.seat.now.count ≤ 2 ^ 24 = c.bodies_lie_apart.ensures.count in
    omega (arith, page_before w ((c.args.a + c.args.size - 1) / w) c.self.inside.pages last, ap (λ s. s.shape.pages * s.shape.page_words) c.self.view_is, c.requires.space.seat)

pub returns-in-Some-clause-knows : goal.returns-in-Some-clause-knows
returns-in-Some-clause-knows c =
    let now = c.args.self.now in
    let es = extents_of_bodies c.args.seat.now.bodies in
    let same : c.self.inside.gaps ≡ now.gaps = ap (λ s. s.gaps) c.self.view_is in
    c.open.ensures.knows now.shape es _ c.in-Some.ensures.gap (had_classes now.shape es c.args.a) (rw same c.requires.space.gaps)

pub returns-in-None-clause-knows : goal.returns-in-None-clause-knows
returns-in-None-clause-knows c =
    let now = c.args.self.now in
    let v = c.args.seat.now in
    let es = extents_of_bodies v.bodies in
    let own = seated now v c.args.a c.args.size c.shape_is_valid.ensures c.bodies_lie_apart.ensures c.requires.space c.requires.object in
    let same : c.self.inside.gaps ≡ now.gaps = ap (λ s. s.gaps) c.self.view_is in
    let words : c.self.inside.page_words ≡ now.shape.page_words = ap (λ s. s.shape.page_words) c.self.view_is in
    c.forget.ensures.knows now.shape es _ (sym words)
    (gaps_opened_in now.shape es (record { place = c.args.a; size = c.args.size }) _ _ (omega (arith, (shape_words now.shape c.shape_is_valid.ensures).0)) own.only
    (λ q clear. rw words at clear))
    (had_classes now.shape es c.args.a) (rw same c.requires.space.gaps)
