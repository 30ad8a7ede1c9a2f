-- Which object has a word, as the page table and the start bits tell it.
use Rattle.std.proofs.Common.{◌≡◌, ℕ, ◌+◌, ◌*◌, ◌/◌, ◌<◌, ◌≤◌, true, List, Option, Some, None, get_or, sym, ap, ◌∙◌, subst, inl, inr, arith}
use Rattle.std.specs.List.{Contains}
use Rattle.std.specs.Option.{IfSome, IfNone}
use Rattle.std.proofs.lemmas.Bool.{cases_lt}
use Rattle.std.proofs.Math.Nat.{mul-le-mul_right}
use Rattle.gc_graph.specs.Placement.{Extent, bucket_of}
use Rattle.gc_graph.specs.PlacementLaw.{TakesPages}
use Rattle.gap_bounds.specs.Bodies.{IsPlace, end_of}
use Rattle.gap_bounds.specs.Body.{Body}
use Rattle.gap_bounds.specs.Seat.{SeatView, IsView}
use Rattle.page_space.specs.Pages.{is_in_page}
use Rattle.page_space.specs.Space.{SpaceView, IsSpaceOver, HoldsAddress, HasNoStart, IsLastStart, body_extent, extents_of_bodies}
use Rattle.page_space.proofs.PageSpan.{page_of, page_is, in_page_from}
use Rattle.gap_bounds.specs.Spans.{between_parts}
use Rattle.gc_graph.specs.PageNumbers.{next_page, same_page, small_bucket, large_bucket}
use Rattle.page_space.proofs.PlaceBodies.{body_of_extent}
use Rattle.gap_bounds.specs.BodyPlaces.{two_words}
use Rattle.gc_graph.specs.Members.{Contains-map}
use Rattle.page_space.proofs.UsedPages.{some_counted, counted_some}

-- ---- by the page table

-- a body that has a word is in the word's page
holder_in_page : (w : ℕ) (bodies : List Body) (x a : ℕ) → 0 < w → (h : HoldsAddress bodies x a) → is_in_page w (x / w) (body_extent h.0) ≡ true
holder_in_page w bodies x a words h =
    let own : (x / w * w ≤ x) × (x < (x / w + 1) * w) = page_of w x words in
    let at : h.0.place ≡ a = h.2 in
    in_page_from w (x / w) (body_extent h.0) x words (omega (arith, h.3), h.4) own.0 own.1

pub none_in_empty_page : (space : SpaceView) (count : ℕ) (bodies : List Body) (x a : ℕ) → 0 < space.shape.page_words
    → IsSpaceOver space count (extents_of_bodies bodies) → x / space.shape.page_words < space.shape.pages
    → get_or space.table.objects (x / space.shape.page_words) 0 ≡ 0 → HoldsAddress bodies x a → ⊥
none_in_empty_page space count bodies x a words over within none h =
    let w : ℕ = space.shape.page_words in
    omega (
      arith,
      over.held (x / w) within,
      counted_some (is_in_page w (x / w)) (extents_of_bodies bodies) (body_extent h.0) (Contains-map body_extent bodies h.0 h.1) (holder_in_page w bodies x a words h),
    )

-- an object starts there, by the first word of the page, and no other one has a word in the page
pub record IsOnlyStart (bodies : List Body) (w page start : ℕ) : Type 0 where
  pub place : IsPlace bodies start
  pub low : start ≤ page * w
  pub only : (x a : ℕ) → x / w ≡ page → HoldsAddress bodies x a → start ≡ a

pub large_start : (space : SpaceView) (count : ℕ) (bodies : List Body) (page : ℕ) → 0 < space.shape.page_words
    → IsSpaceOver space count (extents_of_bodies bodies) → page < space.shape.pages → 0 < get_or space.table.objects page 0
    → get_or space.table.buckets page 0 ≡ 4 → IsOnlyStart bodies space.shape.page_words page (get_or space.table.starts page 0 * space.shape.page_words)
large_start space count bodies page words over within some is_large =
    let w : ℕ = space.shape.page_words in
    let es : List Extent = extents_of_bodies bodies in
    let one : (e : Extent) × Contains es e × (is_in_page w page e ≡ true) = some_counted (is_in_page w page) es (omega (arith, over.held page within)) in
    let e : Extent = one.0 in
    let large : bucket_of w e.size ≡ 4 = sym (over.buckets page e one.1 one.2) ∙ is_large in
    let takes : TakesPages space.shape e.size e.place = elim (over.placed e one.1) [
      | inl small ↦ absurd (small_bucket w e.size small.0 large)
      | inr takes ↦ takes.1
    ] in
    let first : e.place ≡ takes.page * w = takes.first in
    let own : e.place / w ≡ takes.page = page_is w takes.page e.place words (omega arith) (omega (arith, next_page w takes.page)) in
    let start : get_or space.table.starts page 0 * w ≡ e.place = ap (λ n. n * w) (over.starts page e one.1 one.2 ∙ own) ∙ sym first in
    let b : (b : Body) × Contains bodies b × (body_extent b ≡ e) = body_of_extent bodies e one.1 in
    let from : e.place / w ≤ page = (between_parts _ _ page one.2).0 in
    let low : takes.page * w ≤ page * w = mul-le-mul_right w (omega arith) in
    record {
      place = (b.0, b.1, ap (λ (d : Extent). d.place) b.2 ∙ sym start);
      low = omega arith;
      only = λ x a at h.
          let there : Contains es (body_extent h.0) = Contains-map body_extent bodies h.0 h.1 in
          let inside : is_in_page w page (body_extent h.0) ≡ true = subst (λ p. is_in_page w p (body_extent h.0) ≡ true) at (holder_in_page w bodies x a words h) in
          let same : body_extent h.0 ≡ e = over.alone page (body_extent h.0) e there one.1 inside one.2 large in
          start ∙ sym (ap (λ (d : Extent). d.place) same) ∙ h.2;
    }

-- in a page of another bucket each object starts in the page
pub small_start : (space : SpaceView) (count : ℕ) (bodies : List Body) (x a : ℕ) → 0 < space.shape.page_words
    → IsSpaceOver space count (extents_of_bodies bodies) → (get_or space.table.buckets (x / space.shape.page_words) 0 ≡ 4 → ⊥) → HoldsAddress bodies x a
    → x / space.shape.page_words * space.shape.page_words ≤ a
small_start space count bodies x a words over not_large h =
    let w : ℕ = space.shape.page_words in
    let there : Contains (extents_of_bodies bodies) (body_extent h.0) = Contains-map body_extent bodies h.0 h.1 in
    let own : (x / w * w ≤ x) × (x < (x / w + 1) * w) = page_of w x words in
    let at : h.0.place ≡ a = h.2 in
    let to : x < end_of h.0 = h.4 in
    elim (over.placed (body_extent h.0) there) [
      | inl lies ↦
          (let low : lies.1.page * w ≤ h.0.place = lies.1.first in
          let high : end_of h.0 ≤ (lies.1.page + 1) * w = lies.1.last in
          let same : lies.1.page ≡ x / w = same_page w lies.1.page (x / w) x (omega (arith, h.3)) (omega arith) own.0 own.1 in
          subst (λ p. p * w ≤ a) same (omega arith))
      | inr takes ↦
          absurd (not_large (over.buckets (x / w) (body_extent h.0) there (holder_in_page w bodies x a words h) ∙ large_bucket w h.0.size takes.0))
    ]

-- ---- by the start bits

last_holds : (v : SeatView) (low x p a : ℕ) → IsView v → IsLastStart v.bodies low (x + 1) p → low ≤ a → HoldsAddress v.bodies x a → p ≡ a
last_holds v low x p a view last from h =
    elim (cases_lt p a) [
      | inl before ↦ absurd (last.3 a (omega arith) (omega (arith, h.3)) (h.0, h.1, h.2))
      | inr after ↦
          (let b : Body = last.0.0 in
          let at : b.place ≡ p = last.0.2 in
          let size : 2 ≤ b.size = two_words v view b last.0.1 in
          let same : b ≡ h.0 = view.apart b h.0 p last.0.1 h.1 (omega arith) (omega arith) (omega (arith, h.2)) (omega (arith, last.2, h.4)) in
          sym at ∙ ap (λ (c : Body). c.place) same ∙ h.2)
    ]

-- of the objects that start from an address on, the last one up to a word is the only one that may have the word
pub only_last : (v : SeatView) (low x a : ℕ) (r : Option ℕ) → IsView v → IfSome r (IsLastStart v.bodies low (x + 1))
    → IfNone r (HasNoStart v.bodies low (x + 1)) → low ≤ a → HoldsAddress v.bodies x a → r ≡ Some a
only_last v low x a None view found none from h = absurd (none a from (omega (arith, h.3)) (h.0, h.1, h.2))
only_last v low x a (Some p) view found none from h = ap Some (last_holds v low x p a view found from h)
