use Rattle.std.proofs.Common.{◌≡◌, ℕ, ◌*◌, ◌/◌, ◌<◌, ◌≤◌, get_or, Some, ap, ◌∙◌, sym, subst, refl, ◌+◌, ◌^◌, rules, arith}
use Rattle.page_space.specs.Pages.{word_count}
use Rattle.page_space.specs.Space.{IsSpaceOver, extents_of_bodies}
use Rattle.page_space.proofs.Shapes.{shape_words}
use Rattle.page_space.proofs.PageSpan.{page_of, page_inside}
use Rattle.page_space.proofs.OnlyStarts.{IsOnlyStart, none_in_empty_page, large_start, small_start, only_last}
use Rattle.page_space.proofs.space.Space.only_start_for.Goals as goal
use Rattle.page_space.proofs.space.Space.only_start_for.Goals.{After-start_of_page}

pub returns-then-objects_in-eq0-clause-only : goal.returns-then-objects_in-eq0-clause-only
returns-then-objects_in-eq0-clause-only c a h =
    let v = c.args.seat.now in
    let over : IsSpaceOver _ v.count (extents_of_bodies v.bodies) = subst (λ s. IsSpaceOver s v.count (extents_of_bodies v.bodies)) (sym c.self.view_is) c.requires.space.over in
    let w : ℕ = c.self.inside.page_words in
    let words = shape_words _ c.self.invariant.shape in
    let page : c.args.a / w < c.self.inside.pages =
    page_inside w c.self.inside.pages c.args.a (omega arith) (omega (arith, c.requires.address, ap (λ s. word_count s.shape) c.self.view_is)) in
    absurd (none_in_empty_page _ v.count v.bodies c.args.a a (omega (arith, words.0)) over page (sym c.objects_in.ensures ∙ c.if-objects_in-eq0.true) h)

-- the page has a large object
starts : (c : After-start_of_page)
    → IsOnlyStart c.args.seat.now.bodies c.self.inside.page_words (c.args.a / c.self.inside.page_words) (c.start_of_page.result * c.self.inside.page_words)
starts c =
    let v = c.args.seat.now in
    let over : IsSpaceOver _ v.count (extents_of_bodies v.bodies) = subst (λ s. IsSpaceOver s v.count (extents_of_bodies v.bodies)) (sym c.self.view_is) c.requires.space.over in
    let w : ℕ = c.self.inside.page_words in
    let words = shape_words _ c.self.invariant.shape in
    let page : c.args.a / w < c.self.inside.pages =
    page_inside w c.self.inside.pages c.args.a (omega arith) (omega (arith, c.requires.address, ap (λ s. word_count s.shape) c.self.view_is)) in
    subst (λ n. IsOnlyStart v.bodies w (c.args.a / w) (n * w)) (sym c.start_of_page.ensures)
    (large_start _ v.count v.bodies (c.args.a / w) (omega (arith, words.0)) over page (omega (arith, c.objects_in.ensures, c.if-objects_in-eq0.false))
    (sym c.bucket_of_page.ensures ∙ c.if-bucket_of_page-eq-LARGE.true))

low : (c : After-start_of_page) → c.start_of_page.result * c.self.inside.page_words ≤ c.args.a
low c =
    let w : ℕ = c.self.inside.page_words in
    let words = shape_words _ c.self.invariant.shape in
    let own : (c.args.a / w * w ≤ c.args.a) × (c.args.a < (c.args.a / w + 1) * w) = page_of w c.args.a (omega (arith, words.0)) in
    omega (arith, (starts c).low)

pub overflow_mul-result : goal.overflow_mul-result
overflow_mul-result c = let l = low c in let n : c.start_of_page.result * c.self.inside.page_words < 2 ^ 32 = omega arith in search rules

pub returns-then-bucket_of_page-eq-LARGE-clause-place : goal.returns-then-bucket_of_page-eq-LARGE-clause-place
returns-then-bucket_of_page-eq-LARGE-clause-place c = (starts c).place

pub returns-then-bucket_of_page-eq-LARGE-clause-low : goal.returns-then-bucket_of_page-eq-LARGE-clause-low
returns-then-bucket_of_page-eq-LARGE-clause-low c = low c

pub returns-then-bucket_of_page-eq-LARGE-clause-only : goal.returns-then-bucket_of_page-eq-LARGE-clause-only
returns-then-bucket_of_page-eq-LARGE-clause-only c a h = ap Some ((starts c).only c.args.a a refl h)

pub returns-clause-only : goal.returns-clause-only
returns-clause-only c a h =
    let v = c.args.seat.now in
    let w : ℕ = c.args.self.now.shape.page_words in
    let sizes = shape_words c.args.self.now.shape c.shape_is_valid.ensures in
    let page : c.args.a / c.self.inside.page_words ≡ c.args.a / w = ap (λ s. c.args.a / s.shape.page_words) c.self.view_is in
    let bucket : c.bucket_of_page.result ≡ get_or c.args.self.now.table.buckets (c.args.a / w) 0 =
    c.bucket_of_page.ensures ∙ ap (λ s. get_or s.table.buckets (c.args.a / s.shape.page_words) 0) c.self.view_is in
    let from : c.args.a / w * w ≤ a =
    small_start c.args.self.now v.count v.bodies c.args.a a (omega (arith, sizes.0)) c.requires.space.over (λ large. c.if-bucket_of_page-eq-LARGE.false (bucket ∙ large)) h in
    let words : c.args.a / w * (64 * c.blocks-2.result) ≡ c.args.a / w * w = ap (λ n. c.args.a / w * n) c.blocks-2.ensures in
    let start : 64 * (c.args.a / w * c.blocks-2.result) ≤ a = omega arith in
    only_last v _ c.args.a a c.last_start_by.result c.bodies_lie_apart.ensures c.last_start_by.ensures.found c.last_start_by.ensures.none (rw page start) h
