-- What is known of gaps, where objects come or go and where what is remembered changes.
use Rattle.std.proofs.Common.{◌≡◌, ℕ, ◌+◌, ◌-◌, ◌*◌, ◌/◌, ◌<◌, ◌≤◌, ◌⊎◌, Bool, true, false, List, [], ◌∷◌, ◌++◌, get_or, sym, ap, ◌∙◌, subst, inl, inr, arith}
use Rattle.std.specs.List.{Contains, filter}
use Rattle.std.proofs.lemmas.Bool.{cases_eq, cases_lt, false≢true}
use Rattle.std.proofs.lemmas.List.Elements.{Contains-append_left, Contains-push_cases}
use Rattle.std.proofs.Math.Nat.{mul-le-mul_right}
use Rattle.gc_graph.specs.State.{Shape}
use Rattle.gc_graph.specs.Placement.{Extent, HasWord, bucket_of}
use Rattle.page_space.specs.Pages.{is_between, is_in_page, word_count}
use Rattle.gap_bounds.specs.Gaps.{GapTable, least_of, IsGap, HasClass, KnowsGaps}
use Rattle.gap_bounds.specs.Changes.{GapsOpenedIn, GapsTaken, HadClasses}
use Rattle.gap_bounds.specs.Seat.{SeatView}
use Rattle.page_space.specs.Space.{SpaceView, IsSpaceOver, IsSpaceOf, extents_of_bodies, heap_of}
use Rattle.page_space.specs.Opening.{without_place}
use Rattle.page_space.proofs.PageSpan.{page_of, page_inside, in_page_from, in_page_word}
use Rattle.gap_bounds.specs.Spans.{between_parts}
use Rattle.page_space.proofs.GoodPlaces.{IsGoodPlace, sizes_of, starts_in_page}
use Rattle.page_space.proofs.UsedPages.{some_counted}
use Rattle.page_space.proofs.Extents.{others, contains_filter, from_filter}

-- ---- the same objects

pub with_gaps : (space : SpaceView) (count : ℕ) (es : List Extent) (gaps : GapTable) → IsSpaceOver space count es → KnowsGaps space.shape es gaps
    → IsSpaceOver (record space { gaps = gaps }) count es
with_gaps space count es gaps over knows = record {
  seat = over.seat;
  differ = over.differ;
  sizes = over.sizes;
  placed = over.placed;
  shared = over.shared;
  alone = over.alone;
  objects = over.objects;
  used = over.used;
  free = over.free;
  held = over.held;
  buckets = over.buckets;
  starts = over.starts;
  gaps = knows;
}

-- the view of a space whose gap table alone changed
pub others_stay : (space before : SpaceView) (count : ℕ) (es : List Extent) (gaps : GapTable) → space ≡ before → IsSpaceOver before count es
    → KnowsGaps before.shape es gaps → IsSpaceOver (record space { gaps = gaps }) count es
others_stay space before count es gaps same over knows =
    subst (λ (s : SpaceView). IsSpaceOver (record s { gaps = gaps }) count es) (sym same) (with_gaps before count es gaps over knows)

-- the same of the words of a seat
pub space_stays : (space before : SpaceView) (v : SeatView) (gaps : GapTable) → space ≡ before → IsSpaceOf before v
    → KnowsGaps before.shape (extents_of_bodies v.bodies) gaps → IsSpaceOf (record space { gaps = gaps }) v
space_stays space before v gaps same is knows = record {
  words = is.words ∙ sym (ap heap_of same);
  over = others_stay space before v.count (extents_of_bodies v.bodies) gaps same is.over knows;
}

-- ---- an object comes

-- a page with the bucket of a class had it before the new object, or is worth a look
class_push : (space : SpaceView) (count : ℕ) (es : List Extent) (e : Extent) → 0 < space.shape.page_words → 2 ≤ e.size
    → IsSpaceOver space count es → IsGoodPlace space.shape es e
    → (class q : ℕ) → HasClass space.shape (es ++ e ∷ []) class q
    → HasClass space.shape es class q
    ⊎ ((get_or space.table.objects (e.place / space.shape.page_words) 0 ≡ 0) × (e.place / space.shape.page_words * space.shape.page_words ≤ q * space.shape.page_words))
class_push space count es e some large over good class q has =
    let w : ℕ = space.shape.page_words in
    elim (Contains-push_cases es e has.0 has.2) [
      | inl old ↦ inl (has.0, has.1, old, has.3, has.4, has.5, has.6)
      | inr new ↦
          (let page : ℕ = e.place / w in
          let covers : HasWord e has.1 = subst (λ (d : Extent). HasWord d has.1) (sym new) has.3 in
          let own : bucket_of w e.size ≡ bucket_of w (least_of class) = ap (λ (d : Extent). bucket_of w d.size) new ∙ has.6 in
          let e_in : is_in_page w q e ≡ true = in_page_from w q e has.1 some covers has.4 has.5 in
          let span = page_of w e.place some in
          let first_in : is_in_page w page e ≡ true = in_page_from w page e e.place some (omega arith, omega arith) span.0 span.1 in
          let inside : e.place + e.size ≤ word_count space.shape = good.inside in
          let within : page < space.shape.pages = page_inside w space.shape.pages e.place some (omega arith) in
          elim (cases_lt 0 (get_or space.table.objects page 0)) [
            | inl held ↦
                (let one : (d : Extent) × Contains es d × (is_in_page w page d ≡ true) = some_counted (is_in_page w page) es (omega (arith, over.held page within)) in
                let shared = good.shared page one.0 one.1 one.2 first_in in
                let same : page ≡ q = starts_in_page space.shape e q some (omega arith) good.well shared.1 e_in in
                let word : (a : ℕ) × HasWord one.0 a × (page * w ≤ a) × (a < (page + 1) * w) = in_page_word w page one.0 some (sizes_of space count es over one.0 one.1) one.2 in
                inl (one.0, word.0, one.1, word.1, subst (λ p. p * w ≤ word.0) same word.2, subst (λ p. word.0 < (p + 1) * w) same word.3, shared.0 ∙ own))
            | inr none ↦
                (let order : page ≤ q = (between_parts page ((e.place + e.size - 1) / w + 1) q e_in).0 in
                inr (omega arith, mul-le-mul_right w order))
          ])
    ]

-- a gap beside a new object was one before
gap_before : (shape : Shape) (es : List Extent) (e : Extent) (size page a : ℕ) → IsGap shape (es ++ e ∷ []) size page a → IsGap shape es size page a
gap_before shape es e size page a gap = record {
  first = gap.first;
  last = gap.last;
  free = λ x low high taken. gap.free x low high (taken.0, Contains-append_left es (e ∷ []) taken.0 taken.1, taken.2);
}

pub gaps_taken : (space : SpaceView) (count : ℕ) (es : List Extent) (e : Extent) (was_empty : Bool) → 0 < space.shape.page_words → 2 ≤ e.size
    → IsSpaceOver space count es → IsGoodPlace space.shape es e → (get_or space.table.objects (e.place / space.shape.page_words) 0 ≡ 0 → was_empty ≡ true)
    → GapsTaken space.shape es (es ++ e ∷ []) (e.place / space.shape.page_words * space.shape.page_words) was_empty
gaps_taken space count es e was_empty some large over good empty = record {
  gaps = λ q size a gap. gap_before space.shape es e size q a gap;
  classes = λ class q has. elim (class_push space count es e some large over good class q has) [
    | inl had ↦ inl had
    | inr new ↦ inr (empty new.0, new.1)
  ];
}

-- ---- an object goes

pub had_classes : (shape : Shape) (es : List Extent) (a : ℕ) → HadClasses shape es (without_place es a)
had_classes shape es a class q has = (has.0, has.1, (from_filter es a has.0 has.2).0, has.3, has.4, has.5, has.6)

-- a gap in a page in which the object has no word was one before
gap_elsewhere : (shape : Shape) (es : List Extent) (e : Extent) (size q a : ℕ) → 0 < shape.page_words
    → ((d : Extent) → Contains es d → d.place ≡ e.place → d ≡ e) → is_in_page shape.page_words q e ≡ false
    → IsGap shape (filter (others e.place) es) size q a → IsGap shape es size q a
gap_elsewhere shape es e size q a words one outside gap = record {
  first = gap.first;
  last = gap.last;
  free = λ x low high taken. elim (cases_eq taken.0.place e.place) [
    | inl own ↦
        (let covers : HasWord e x = subst (λ (d : Extent). HasWord d x) (one taken.0 taken.1 own) taken.2 in
        let first : q * shape.page_words ≤ a = gap.first in
        let last : a + size ≤ (q + 1) * shape.page_words = gap.last in
        false≢true (sym outside ∙ in_page_from shape.page_words q e x words covers (omega arith) (omega arith)))
    | inr other ↦ gap.free x low high (taken.0, contains_filter es e.place taken.0 other taken.1, taken.2)
  ];
}

pub gaps_opened_in : (shape : Shape) (es : List Extent) (e : Extent) (first end : ℕ) → 0 < shape.page_words
    → ((d : Extent) → Contains es d → d.place ≡ e.place → d ≡ e)
    → ((q : ℕ) → is_between first end q ≡ false → is_in_page shape.page_words q e ≡ false)
    → GapsOpenedIn shape es (without_place es e.place) first end
gaps_opened_in shape es e first end words one outside q size a clear gap = gap_elsewhere shape es e size q a words one (outside q clear) gap
