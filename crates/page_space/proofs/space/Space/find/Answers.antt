use Rattle.std.proofs.Common.{◌≡◌, ℕ, ◌+◌, ◌*◌, ◌/◌, ◌<◌, ◌≤◌, get_or, refl, inl, inr, ap, sym, subst, ◌∙◌, arith, below_more}
use Rattle.std.proofs.lemmas.Bool.{cases_lt}
use Rattle.gc_graph.specs.Placement.{PageHasBucket, IsNowhere, bucket_of}
use Rattle.gap_bounds.specs.Gaps.{HasClass, least_of}
use Rattle.gap_bounds.specs.Seat.{SeatView}
use Rattle.page_space.specs.Space.{IsSpaceOf, FitsIn, extents_of_bodies}
use Rattle.page_space.proofs.PageSpan.{page_of}
use Rattle.gc_graph.specs.PageNumbers.{page_before}
use Rattle.page_space.proofs.PlaceFound.{fits_found, fits_none, gap_of_run, bucket_of_class}
use Rattle.page_space.proofs.Shapes.{shape_words}
use Rattle.page_space.proofs.UsedPages.{held_is_used, uses_of_bucket}
use Rattle.page_space.proofs.space.Space.find.Goals as goal

pub loop-page-init : goal.loop-page-init
loop-page-init c = record {
  view = refl;
  done = λ a there. there;
  space = c.requires.space;
  shape = refl;
  none = λ other low from a run.
      let now = c.args.self.now in
      let w : ℕ = now.shape.page_words in
      let words = shape_words now.shape c.shape_is_valid.ensures in
      let size : c.args.size ≤ w / 2 = omega (arith, ap (λ s. s.shape.page_words) c.self.view_is, c.if-size-self.false) in
      let class = c.class_of-class.result in
      let bucket : bucket_of w (least_of class.number) ≡ bucket_of w c.args.size =
      bucket_of_class w c.args.size class.number class.least words.0 size c.class_of-class.ensures in
      let has : HasClass now.shape (extents_of_bodies c.args.seat.now.bodies) class.number other =
      subst (PageHasBucket w (extents_of_bodies c.args.seat.now.bodies) other) (sym bucket) run.bucket in
      let gap = gap_of_run now.shape c.args.seat.now.bodies c.args.size other a run in
      let least : least_of class.number ≤ c.args.size = omega (arith, c.class_of-class.ensures.least_is, c.class_of-class.ensures.below) in
      let last : a + c.args.size ≤ (other + 1) * w = gap.last in
      let first : get_or now.gaps.first class.number 0 ≤ a = c.requires.space.gaps.first class.number other c.args.size a has least gap in
      let page : ℕ = get_or now.gaps.first class.number 0 / w in
      let is : c.first_for.result / c.self.inside.page_words ≡ page =
      ap (λ s. c.first_for.result / s.shape.page_words) c.self.view_is ∙ ap (λ n. n / w) (c.first_for.ensures ∙ ap (λ s. get_or s.gaps.first class.number 0) c.self.view_is) in
      let start : page * w ≤ get_or now.gaps.first class.number 0 = (page_of w (get_or now.gaps.first class.number 0) (omega (arith, words.0))).0 in
      omega (arith, page_before w other page (omega (arith, c.max-page.ensures)), c.requires.some);
}

pub returns-in-Some-clause-found : goal.returns-in-Some-clause-found
returns-in-Some-clause-found c =
    let words : c.self.inside.page_words ≡ c.args.self.now.shape.page_words = ap (λ s. s.shape.page_words) c.self.view_is in
    let low = rw (ap (λ (v : SeatView). v.bodies) c.loop-page.invariant.view, c.loop-page.invariant.shape) at c.in-Some.ensures.found in
    fits_found c.args.self.now.shape c.args.seat.now.bodies c.args.from c.args.to c.args.size c.loop-page.page c.in-Some.a (omega arith) (omega arith) (omega arith) (omega arith)
    c.loop-page.invariant.none low

pub returns-in-Some-clause-place : goal.returns-in-Some-clause-place
returns-in-Some-clause-place c =
    let words : c.self.inside.page_words ≡ c.args.self.now.shape.page_words = ap (λ s. s.shape.page_words) c.self.view_is in
    let low = rw (ap (λ (v : SeatView). v.bodies) c.loop-page.invariant.view, c.loop-page.invariant.shape) at c.in-Some.ensures.found in
    inl (omega arith, (c.loop-page.page, omega arith, low.0))

pub loop-page-preserved : goal.loop-page-preserved
loop-page-preserved c =
    let view = c.find_in.ensures.view ∙ c.loop-page.invariant.view in
    let none = rw (ap (λ (v : SeatView). v.bodies) c.loop-page.invariant.view, c.loop-page.invariant.shape) at c.in_default.ensures.none in
    record {
      view = view;
      done = λ a there. c.find_in.ensures.done a (c.loop-page.invariant.done a there);
      space = subst (IsSpaceOf c.find_in.new.self) view c.find_in.ensures.space;
      shape = c.find_in.ensures.shape ∙ c.loop-page.invariant.shape;
      none = below_more (λ other. c.args.from ≤ other → IsNowhere (FitsIn c.args.self.now.shape c.args.seat.now.bodies c.args.size other)) c.loop-page.page
          c.loop-page.invariant.none (λ _. none);
    }

pub returns-clause-none : goal.returns-clause-none
returns-clause-none c =
    let now = c.args.self.now in
    let words = shape_words now.shape c.shape_is_valid.ensures in
    fits_none now.shape c.args.seat.now.bodies c.args.from c.args.to c.args.size (λ other below. elim (cases_lt other c.top.result) [
      | inl under ↦ c.loop-page.invariant.none other (omega arith)
      | inr above ↦
          (λ from a run. absurd (let some : 0 < get_or now.table.objects other 0 =
          (held_is_used now c.args.seat.now.count (extents_of_bodies c.args.seat.now.bodies) other (omega (arith, words.0)) c.requires.space.over (omega (arith, c.requires.to))).1
          (uses_of_bucket now.shape (extents_of_bodies c.args.seat.now.bodies) other (bucket_of now.shape.page_words c.args.size) run.bucket) in
          omega (arith, some, c.top.ensures other above, ap (λ s. get_or s.table.objects other 0) c.self.view_is)))
    ])

pub returns-in-Some-clause-done : goal.returns-in-Some-clause-done
returns-in-Some-clause-done c a there = c.find_in.ensures.done a (c.loop-page.invariant.done a there)

pub returns-clause-done : goal.returns-clause-done
returns-clause-done c a there = c.loop-page.invariant.done a there
