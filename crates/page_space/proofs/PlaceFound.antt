-- From the pages to the place of a new object.
use Rattle.std.proofs.Common.{◌≡◌, ℕ, ◌+◌, ◌*◌, ◌/◌, ◌<◌, ◌≤◌, true, false, cond, leb, List, Option, Some, None, sym, ap, ◌∙◌, subst, inl, inr, arith, ltb}
use Rattle.std.specs.List.{Contains}
use Rattle.std.specs.Option.{IfNone}
use Rattle.std.proofs.lemmas.Bool.{cases_order, cases_lt, cases_Bool, ltb-true, le-leb}
use Rattle.gc_graph.specs.State.{Shape}
use Rattle.gc_graph.specs.Placement.{Extent, PageHasBucket, IsLowest, IsNowhere, bucket_of}
use Rattle.gap_bounds.specs.Bodies.{end_of}
use Rattle.gap_bounds.specs.Body.{Body}
use Rattle.page_space.specs.Pages.{is_in_page}
use Rattle.page_space.specs.Space.{SpaceView, IsSpaceOver, FitsIn, FitsBetween, HoldsWhole, body_extent, extents_of_bodies}
use Rattle.gap_bounds.specs.Gaps.{IsGap, IsClassOf, least_of}
use Rattle.page_space.proofs.PageSpan.{in_page_from}
use Rattle.gc_graph.specs.PageNumbers.{page_before, same_page, small_bucket, large_bucket}
use Rattle.gc_graph.specs.Members.{Contains-map}

pub run_of_gap : (shape : Shape) (bodies : List Body) (size page a : ℕ)
    → PageHasBucket shape.page_words (extents_of_bodies bodies) page (bucket_of shape.page_words size) → IsGap shape (extents_of_bodies bodies) size page a → FitsIn shape bodies size page a
run_of_gap shape bodies size page a bucket gap = record { bucket = bucket; first = gap.first; last = gap.last; free = gap.free }

pub gap_of_run : (shape : Shape) (bodies : List Body) (size page a : ℕ) → FitsIn shape bodies size page a → IsGap shape (extents_of_bodies bodies) size page a
gap_of_run shape bodies size page a run = record { first = run.first; last = run.last; free = run.free }

pub if_none_then : (r : Option ℕ) (P Q : Type 0) → IfNone r P → (P → Q) → IfNone r Q
if_none_then None P Q p f = f p
if_none_then (Some a) P Q p f = tt

pub fits_found : (shape : Shape) (bodies : List Body) (from to size page a : ℕ) → 2 ≤ size → size ≤ shape.page_words / 2 → from ≤ page → page < to
    → ((other : ℕ) → other < page → from ≤ other → IsNowhere (FitsIn shape bodies size other)) → IsLowest (FitsIn shape bodies size page) a
    → IsLowest (FitsBetween shape from to (extents_of_bodies bodies) size) a
fits_found shape bodies from to size page a some small low_page within earlier low = (
  (small, (page, low_page, within, low.0)),
  (λ b before fits.
      elim (cases_order fits.1.0 page) [
        | inl same ↦ low.1 b before (subst (λ p. FitsIn shape bodies size p b) same fits.1.3)
        | inr apart ↦ elim apart [
          | inl less ↦ earlier fits.1.0 less fits.1.1 b fits.1.3
          | inr more ↦
              (let first : fits.1.0 * shape.page_words ≤ b = fits.1.3.first in
              let last : a + size ≤ (page + 1) * shape.page_words = low.0.last in
              absurd (omega (arith, page_before shape.page_words page fits.1.0 more)))
        ]
      ]),
)

pub fits_none : (shape : Shape) (bodies : List Body) (from to size : ℕ)
    → ((other : ℕ) → other < to → from ≤ other → IsNowhere (FitsIn shape bodies size other))
    → IsNowhere (FitsBetween shape from to (extents_of_bodies bodies) size)
fits_none shape bodies from to size none a fits = none fits.1.0 fits.1.2 fits.1.1 a fits.1.3

-- in a page with the bucket of a small size each body lies whole
pub page_holds_whole : (space : SpaceView) (count : ℕ) (bodies : List Body) (size page : ℕ) → 0 < space.shape.page_words
    → IsSpaceOver space count (extents_of_bodies bodies) → size ≤ space.shape.page_words / 2
    → PageHasBucket space.shape.page_words (extents_of_bodies bodies) page (bucket_of space.shape.page_words size) → HoldsWhole space.shape bodies page
page_holds_whole space count bodies size page some over small has b a there from to first last =
    let w : ℕ = space.shape.page_words in
    let e : Extent = body_extent b in
    let e_there : Contains (extents_of_bodies bodies) e = Contains-map body_extent bodies b there in
    let e_in : is_in_page w page e ≡ true = in_page_from w page e a some (from, to) first last in
    let d_in : is_in_page w page has.0 ≡ true = in_page_from w page has.0 has.1 some has.3 has.4 has.5 in
    let same : bucket_of w e.size ≡ bucket_of w size = over.shared page e has.0 e_there has.2 e_in d_in ∙ has.6 in
    elim (over.placed e e_there) [
      | inl lies ↦
          (let low : lies.1.page * w ≤ b.place = lies.1.first in
          let high : end_of b ≤ (lies.1.page + 1) * w = lies.1.last in
          let here : lies.1.page ≡ page = same_page w lies.1.page page a (omega arith) (omega arith) first last in
          subst (λ p. (p * w ≤ b.place) × (end_of b ≤ (p + 1) * w)) here (low, high))
      | inr takes ↦ absurd (small_bucket w size small (sym same ∙ large_bucket w e.size takes.0))
    ]

middle_bucket : (w size : ℕ) → size ≤ w / 2 → 16 ≤ size → bucket_of w size ≡ 3
middle_bucket w size small least =
    let not_large : ltb (w / 2) size ≡ false = elim (cases_Bool (ltb (w / 2) size)) [
      | inl holds ↦ absurd (let over : w / 2 < size = ltb-true (w / 2) size holds in omega arith)
      | inr clear ↦ clear
    ] in
    ap (λ t. cond t 4 (cond (leb 16 size) 3 (cond (leb 8 size) 2 (cond (leb 4 size) 1 0)))) not_large
    ∙ ap (λ t. cond t 3 (cond (leb 8 size) 2 (cond (leb 4 size) 1 0))) (le-leb 16 size least)

-- the sizes of a class up to half a page are of one bucket
pub bucket_of_class : (w size class least : ℕ) → 256 ≤ w → size ≤ w / 2 → IsClassOf size class least → bucket_of w (least_of class) ≡ bucket_of w size
bucket_of_class w size class least words small of =
    elim (cases_lt size 64) [
      | inl few ↦ ap (bucket_of w) (sym of.least_is ∙ of.own few)
      | inr many ↦
          (let least : 64 ≤ least_of class = omega (arith, of.large many, of.least_is) in
          let below : least_of class ≤ size = omega (arith, of.below, of.least_is) in
          middle_bucket w (least_of class) (omega arith) (omega arith) ∙ sym (middle_bucket w size small (omega arith)))
    ]

-- a gap of a smaller size begins where a larger one does
pub gap_less : (shape : Shape) (es : List Extent) (n size page a : ℕ) → n ≤ size → IsGap shape es size page a → IsGap shape es n page a
gap_less shape es n size page a less gap = record {
  first = gap.first;
  last = (let last : a + size ≤ (page + 1) * shape.page_words = gap.last in omega arith);
  free = λ x low high. gap.free x low (omega arith);
}
