use Rattle.std.proofs.Common.{◌≡◌, ◌⊎◌, ℕ, ◌+◌, ◌*◌, ◌/◌, ◌≤◌, inl, inr, get_or, ap, ◌∙◌, sym, subst, arith}
use Rattle.std.proofs.lemmas.Bool.{cases_lt, true≢false}
use Rattle.gc_graph.specs.Placement.{PageHasBucket, bucket_of}
use Rattle.gap_bounds.specs.Seat.{SeatView, unlooked}
use Rattle.gap_bounds.specs.Gaps.{IsGap, IsClassOf, HasClass, least_of}
use Rattle.page_space.specs.Space.{SpaceView, IsSpaceOf, HoldsWhole, FitsIn, extents_of_bodies}
use Rattle.page_space.specs.Walks.{BeginsBetween}
use Rattle.page_space.proofs.GapSearch.{lowest_of, nowhere_of, lowest_or}
use Rattle.page_space.proofs.Shapes.{shape_words}
use Rattle.page_space.proofs.PlaceFound.{run_of_gap, gap_of_run, page_holds_whole, bucket_of_class}
use Rattle.page_space.proofs.FoundKept.{found_same}
use Rattle.page_space.proofs.space.Space.find_in.Goals as goal
use Rattle.page_space.proofs.space.Space.find_in.Goals.{After-pass_searched}

pub pass-requires-clause-known : goal.pass-requires-clause-known
pass-requires-clause-known c has =
    let w : ℕ = c.args.self.now.shape.page_words in
    let words = shape_words c.args.self.now.shape c.shape_is_valid.ensures in
    let bucket : bucket_of w (least_of c.args.class.number) ≡ c.bucket_of.result =
    bucket_of_class w c.args.size c.args.class.number c.args.class.least words.0 c.requires.small c.requires.class
    ∙ ap (λ s. bucket_of s.shape.page_words c.args.size) (sym c.self.view_is) ∙ sym c.bucket_of.ensures in
    let had = subst (λ (v : SeatView). PageHasBucket w (extents_of_bodies v.bodies) c.args.page (bucket_of w (least_of c.args.class.number))) c.has_bucket.ensures.view has in
    absurd (true≢false (sym (c.has_bucket.ensures.bucket.1 (subst (PageHasBucket w (extents_of_bodies c.args.seat.now.bodies) c.args.page) bucket had)) ∙ c.if-not-has_bucket.true))

pub pass-requires-clause-worth : goal.pass-requires-clause-worth
pass-requires-clause-worth c size a has least gap =
    let w : ℕ = c.args.self.now.shape.page_words in
    let words = shape_words c.args.self.now.shape c.shape_is_valid.ensures in
    let bucket : bucket_of w (least_of c.args.class.number) ≡ c.bucket_of.result =
    bucket_of_class w c.args.size c.args.class.number c.args.class.least words.0 c.requires.small c.requires.class
    ∙ ap (λ s. bucket_of s.shape.page_words c.args.size) (sym c.self.view_is) ∙ sym c.bucket_of.ensures in
    let had = subst (λ (v : SeatView). PageHasBucket w (extents_of_bodies v.bodies) c.args.page (bucket_of w (least_of c.args.class.number))) c.has_bucket.ensures.view has in
    absurd (true≢false (sym (c.has_bucket.ensures.bucket.1 (subst (PageHasBucket w (extents_of_bodies c.args.seat.now.bodies) c.args.page) bucket had)) ∙ c.if-not-has_bucket.true))

pub gap_in-found-requires-clause-whole : goal.gap_in-found-requires-clause-whole
gap_in-found-requires-clause-whole c =
    let now = c.args.self.now in
    let words = shape_words now.shape c.shape_is_valid.ensures in
    let bucket : c.bucket_of.result ≡ bucket_of now.shape.page_words c.args.size =
    c.bucket_of.ensures ∙ ap (λ s. bucket_of s.shape.page_words c.args.size) c.self.view_is in
    let has : PageHasBucket now.shape.page_words (extents_of_bodies c.args.seat.now.bodies) c.args.page (bucket_of now.shape.page_words c.args.size) =
    subst (PageHasBucket now.shape.page_words (extents_of_bodies c.args.seat.now.bodies) c.args.page) bucket (c.has_bucket.ensures.bucket.0 c.if-not-has_bucket.false) in
    subst (λ (v : SeatView). HoldsWhole now.shape v.bodies c.args.page) (sym c.has_bucket.ensures.view)
    (page_holds_whole now c.args.seat.now.count c.args.seat.now.bodies c.args.size c.args.page (omega (arith, words.0)) c.requires.space.over c.requires.small has)

-- a gap of the size begins where the search looks
searched_from : (now : SpaceView) (v : SeatView) (page size class least from : ℕ) → IsSpaceOf now v → 256 ≤ now.shape.page_words
    → size ≤ now.shape.page_words / 2 → 2 ≤ size → IsClassOf size class least
    → PageHasBucket now.shape.page_words (extents_of_bodies v.bodies) page (bucket_of now.shape.page_words size)
    → (from ≤ get_or now.gaps.first class 0) ⊎ (from ≤ page * now.shape.page_words)
    → (a : ℕ) → IsGap now.shape (extents_of_bodies v.bodies) size page a
    → BeginsBetween now.shape (extents_of_bodies v.bodies) size page from ((page + 1) * now.shape.page_words) a
searched_from now v page size class least from space large small some of has low a gap =
    let w : ℕ = now.shape.page_words in
    let first : page * w ≤ a = gap.first in
    let last : a + size ≤ (page + 1) * w = gap.last in
    let own : HasClass now.shape (extents_of_bodies v.bodies) class page =
    subst (PageHasBucket w (extents_of_bodies v.bodies) page) (sym (bucket_of_class w size class least large small of)) has in
    let remembered : get_or now.gaps.first class 0 ≤ a = space.gaps.first class page size a own (omega (arith, of.below, of.least_is)) gap in (
      elim low [ inl remember ↦ omega arith | inr start ↦ omega arith ],
      omega arith,
      gap,
    )

pub pass_searched-requires-clause-searched : goal.pass_searched-requires-clause-searched
pass_searched-requires-clause-searched c a gap =
    let now = c.args.self.now in
    let w : ℕ = now.shape.page_words in
    let words = shape_words now.shape c.shape_is_valid.ensures in
    let es = extents_of_bodies c.args.seat.now.bodies in
    let bucket : c.bucket_of.result ≡ bucket_of w c.args.size = c.bucket_of.ensures ∙ ap (λ s. bucket_of s.shape.page_words c.args.size) c.self.view_is in
    let has : PageHasBucket w es c.args.page (bucket_of w c.args.size) =
    subst (PageHasBucket w es c.args.page) bucket (c.has_bucket.ensures.bucket.0 c.if-not-has_bucket.false) in
    let first : c.first_for.result ≡ get_or now.gaps.first c.args.class.number 0 = c.first_for.ensures ∙ ap (λ s. get_or s.gaps.first c.args.class.number 0) c.self.view_is in
    let start : c.args.page * c.self.inside.page_words ≡ c.args.page * w = ap (λ s. c.args.page * s.shape.page_words) c.self.view_is in
    let from : (c.min-from.result ≤ get_or now.gaps.first c.args.class.number 0) ⊎ (c.min-from.result ≤ c.args.page * w) =
    elim (cases_lt (c.args.page * w) (get_or now.gaps.first c.args.class.number 0)) [
      | inl more ↦ inl (omega (arith, c.min-from.ensures, c.max.ensures))
      | inr less ↦ inr (omega (arith, c.min-from.ensures, c.max.ensures))
    ] in
    let here : IsGap now.shape es c.args.size c.args.page a = rw (ap (λ (v : SeatView). v.bodies) (c.gap_in-found.ensures.view ∙ ap unlooked c.has_bucket.ensures.view), c.gap_in-found.ensures.shape) at gap in
    let begins = searched_from now c.args.seat.now c.args.page c.args.size c.args.class.number c.args.class.least c.min-from.result c.requires.space words.0
    c.requires.small c.requires.some c.requires.class has from a here in
    rw c.gap_in-found.ensures.shape
    (lowest_or _ c.gap_in-found.result ((c.args.page + 1) * w) a (rw c.has_bucket.ensures.view at c.gap_in-found.ensures.found)
    (rw c.has_bucket.ensures.view at c.gap_in-found.ensures.none) begins)

has_bucket : (c : After-pass_searched) → PageHasBucket c.args.self.now.shape.page_words (extents_of_bodies c.args.seat.now.bodies) c.args.page (bucket_of c.args.self.now.shape.page_words c.args.size)
has_bucket c =
    let w : ℕ = c.args.self.now.shape.page_words in
    let bucket : c.bucket_of.result ≡ bucket_of w c.args.size = c.bucket_of.ensures ∙ ap (λ s. bucket_of s.shape.page_words c.args.size) c.self.view_is in
    subst (PageHasBucket w (extents_of_bodies c.args.seat.now.bodies) c.args.page) bucket (c.has_bucket.ensures.bucket.0 c.if-not-has_bucket.false)

-- where the size fits in the page, a gap begins where the search looked
begins : (c : After-pass_searched) → (a : ℕ) → FitsIn c.args.self.now.shape c.args.seat.now.bodies c.args.size c.args.page a
    → BeginsBetween c.args.self.now.shape (extents_of_bodies c.args.seat.now.bodies) c.args.size c.args.page c.min-from.result ((c.args.page + 1) * c.args.self.now.shape.page_words) a
begins c a run =
    let now = c.args.self.now in
    let w : ℕ = now.shape.page_words in
    let first : c.first_for.result ≡ get_or now.gaps.first c.args.class.number 0 = c.first_for.ensures ∙ ap (λ s. get_or s.gaps.first c.args.class.number 0) c.self.view_is in
    let start : c.args.page * c.self.inside.page_words ≡ c.args.page * w = ap (λ s. c.args.page * s.shape.page_words) c.self.view_is in
    let from : (c.min-from.result ≤ get_or now.gaps.first c.args.class.number 0) ⊎ (c.min-from.result ≤ c.args.page * w) =
    elim (cases_lt (c.args.page * w) (get_or now.gaps.first c.args.class.number 0)) [
      | inl more ↦ inl (omega (arith, c.min-from.ensures, c.max.ensures))
      | inr less ↦ inr (omega (arith, c.min-from.ensures, c.max.ensures))
    ] in
    searched_from now c.args.seat.now c.args.page c.args.size c.args.class.number c.args.class.least c.min-from.result c.requires.space
    (shape_words now.shape c.shape_is_valid.ensures).0 c.requires.small c.requires.some c.requires.class (has_bucket c) from a
    (gap_of_run now.shape c.args.seat.now.bodies c.args.size c.args.page a run)

pub returns-clause-found : goal.returns-clause-found
returns-clause-found c =
    lowest_of _ _ c.gap_in-found.result
    (λ a at. run_of_gap c.args.self.now.shape c.args.seat.now.bodies c.args.size c.args.page a (has_bucket c) at.2) (begins c)
    (rw c.has_bucket.ensures.view at c.gap_in-found.ensures.found)

pub returns-clause-none : goal.returns-clause-none
returns-clause-none c = nowhere_of _ _ c.gap_in-found.result (begins c) (rw c.has_bucket.ensures.view at c.gap_in-found.ensures.none)

pub returns-then-not-has_bucket-clause-done : goal.returns-then-not-has_bucket-clause-done
returns-then-not-has_bucket-clause-done c a there = found_same c.pass.ensures.view a (found_same c.has_bucket.ensures.view a there)

pub returns-clause-done : goal.returns-clause-done
returns-clause-done c a there = found_same c.pass_searched.ensures.view a (c.gap_in-found.ensures.done a (found_same c.has_bucket.ensures.view a there))
