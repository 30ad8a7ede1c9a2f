-- What a free place gives: the words are free and within the heap, and the pages are of the bucket or empty.
use Rattle.std.proofs.Common.{◌≡◌, ℕ, ◌+◌, ◌-◌, ◌*◌, ◌/◌, ◌<◌, ◌≤◌, true, List, sym, ◌∙◌, subst, inl, inr, arith}
use Rattle.std.specs.List.{Contains}
use Rattle.std.proofs.lemmas.Bool.{cases_lt}
use Rattle.std.proofs.Math.Nat.{mul-le-mul_right, add-mul}
use Rattle.gc_graph.specs.State.{Shape}
use Rattle.gc_graph.specs.Placement.{Extent, HasWord, IsTaken, IsEmptyPage, Fits, StartsEmptyRun, bucket_of}
use Rattle.page_space.specs.Pages.{first_page, is_in_page, word_count}
use Rattle.page_space.specs.Space.{SpaceView, IsSpaceOver, IsPlacedWell, IsFreePlace}
use Rattle.page_space.proofs.PageSpan.{page_of, page_is, in_page_from, in_page_word}
use Rattle.gc_graph.specs.PageNumbers.{next_page, page_before, same_page, small_bucket, large_bucket}

pub record IsGoodPlace (shape : Shape) (extents : List Extent) (e : Extent) : Type 0 where
  pub inside : e.place + e.size ≤ word_count shape
  pub free : (x : ℕ) → HasWord e x → IsTaken extents x → ⊥
  pub well : IsPlacedWell shape e
  pub shared :
      (page : ℕ) (d : Extent) → Contains extents d → is_in_page shape.page_words page d ≡ true → is_in_page shape.page_words page e ≡ true
      → (bucket_of shape.page_words d.size ≡ bucket_of shape.page_words e.size) × (bucket_of shape.page_words e.size ≡ 4 → ⊥)

abbrev pub HasSizes : List Extent → Type 0
HasSizes extents = (e : Extent) → Contains extents e → 0 < e.size

pub sizes_of : (space : SpaceView) (count : ℕ) (extents : List Extent) → IsSpaceOver space count extents → HasSizes extents
sizes_of space count extents over e there = (let size : 2 ≤ e.size = over.sizes e there in omega arith)

-- an object that isn't large starts in each page in which it has a word
pub starts_in_page : (shape : Shape) (e : Extent) (page : ℕ) → 0 < shape.page_words → 0 < e.size → IsPlacedWell shape e
    → (bucket_of shape.page_words e.size ≡ 4 → ⊥) → is_in_page shape.page_words page e ≡ true → first_page shape.page_words e ≡ page
starts_in_page shape e page words some well small e_in =
    let w : ℕ = shape.page_words in
    elim well [
      | inl lies ↦
          (let word : (x : ℕ) × HasWord e x × (page * w ≤ x) × (x < (page + 1) * w) = in_page_word w page e words some e_in in
          let low : lies.1.page * w ≤ e.place = lies.1.first in
          let high : e.place + e.size ≤ (lies.1.page + 1) * w = lies.1.last in
          let from : e.place ≤ word.0 = word.1.0 in
          let to : word.0 < e.place + e.size = word.1.1 in
          let same : lies.1.page ≡ page = same_page w lies.1.page page word.0 (omega arith) (omega arith) word.2 word.3 in
          page_is w lies.1.page e.place words low (omega arith) ∙ same)
      | inr takes ↦ absurd (small (large_bucket w e.size takes.0))
    ]

good_fit : (space : SpaceView) (count : ℕ) (extents : List Extent) (e : Extent) → 0 < space.shape.page_words → 0 < e.size
    → IsSpaceOver space count extents → Fits space.shape space.shape.pages extents e.size e.place → IsGoodPlace space.shape extents e
good_fit space count extents e words some over fits =
    let w : ℕ = space.shape.page_words in
    let page : ℕ = fits.1.0 in
    let within : page < space.shape.pages = fits.1.1 in
    let run = fits.1.2 in
    let first : page * w ≤ e.place = run.first in
    let last : e.place + e.size ≤ (page + 1) * w = run.last in
    record {
      inside = omega (arith, mul-le-mul_right w within, page_before w page space.shape.pages within);
      free = λ x c. run.free x c.0 c.1;
      well = inl (fits.0, record { page = page; within = within; first = first; last = last });
      shared = λ q d there d_in e_in.
          let word : (x : ℕ) × HasWord e x × (q * w ≤ x) × (x < (q + 1) * w) = in_page_word w q e words some e_in in
          let low : e.place ≤ word.0 = word.1.0 in
          let high : word.0 < e.place + e.size = word.1.1 in
          let same : q ≡ page = same_page w q page word.0 word.2 word.3 (omega arith) (omega arith) in
          let has = run.bucket in
          let has_in : is_in_page w q has.0 ≡ true =
          subst (λ p. is_in_page w p has.0 ≡ true) (sym same) (in_page_from w page has.0 has.1 words has.3 has.4 has.5) in
          (over.shared q d has.0 there has.2 d_in has_in ∙ has.6, small_bucket w e.size fits.0);
    }

-- each word of the run lies in one of its pages
run_page : (shape : Shape) (extents : List Extent) (e : Extent) (x : ℕ) → 0 < shape.page_words → (run : StartsEmptyRun shape extents e.size e.place)
    → HasWord e x → IsEmptyPage shape extents (x / shape.page_words)
run_page shape extents e x words run c =
    let w : ℕ = shape.page_words in
    let own : (x / w * w ≤ x) × (x < (x / w + 1) * w) = page_of w x words in
    let at : e.place ≡ run.page * w = run.first in
    let enough : e.size ≤ run.count * w = run.enough.0 in
    let low : e.place ≤ x = c.0 in
    let high : x < e.place + e.size = c.1 in
    let ends : (run.page + run.count) * w ≡ run.page * w + run.count * w = add-mul run.page run.count w in
    let above : run.page ≤ x / w = elim (cases_lt (x / w) run.page) [
      | inl less ↦ absurd (omega (arith, page_before w (x / w) run.page less))
      | inr order ↦ order
    ] in
    let below : x / w < run.page + run.count = elim (cases_lt (x / w) (run.page + run.count)) [
      | inl less ↦ less
      | inr over ↦ absurd (omega (arith, mul-le-mul_right w over))
    ] in
    let is : run.page + (x / w - run.page) ≡ x / w = omega arith in
    subst (IsEmptyPage shape extents) is (run.empty (x / w - run.page) (omega arith))

good_run : (shape : Shape) (extents : List Extent) (e : Extent) → 0 < shape.page_words → 0 < e.size → HasSizes extents
    → StartsEmptyRun shape extents e.size e.place → IsGoodPlace shape extents e
good_run shape extents e words some sizes run =
    let w : ℕ = shape.page_words in
    let at : e.place ≡ run.page * w = run.first in
    let enough : e.size ≤ run.count * w = run.enough.0 in
    let within : run.page + run.count ≤ shape.pages = run.within in
    let ends : (run.page + run.count) * w ≡ run.page * w + run.count * w = add-mul run.page run.count w in
    let one : 1 ≤ run.count = elim (cases_lt 0 run.count) [
      | inl more ↦ more
      | inr none ↦ absurd (let zero : run.count * w ≤ 0 * w = mul-le-mul_right w none in omega arith)
    ] in
    record {
      inside = omega (arith, mul-le-mul_right w within);
      free = λ x c taken.
          let own : (x / w * w ≤ x) × (x < (x / w + 1) * w) = page_of w x words in
          run_page shape extents e x words run c (x, own.0, own.1, taken);
      well = elim (cases_lt (w / 2) e.size) [
        | inl large ↦ inr (large, record { page = run.page; count = run.count; within = within; first = at; enough = enough; least = run.enough.1 })
        | inr small ↦ inl (small, record { page = run.page; within = omega arith; first = omega arith; last = omega (arith, next_page w run.page) })
      ];
      shared = λ q d there d_in e_in.
          let word : (x : ℕ) × HasWord e x × (q * w ≤ x) × (x < (q + 1) * w) = in_page_word w q e words some e_in in
          let other : (x : ℕ) × HasWord d x × (q * w ≤ x) × (x < (q + 1) * w) = in_page_word w q d words (sizes d there) d_in in
          let is : word.0 / w ≡ q = page_is w q word.0 words word.2 word.3 in
          let empty : IsEmptyPage shape extents q = subst (IsEmptyPage shape extents) is (run_page shape extents e word.0 words run word.1) in
          absurd (empty (other.0, other.2, other.3, (d, there, other.1)));
    }

pub good_place : (space : SpaceView) (count : ℕ) (extents : List Extent) (e : Extent) → 0 < space.shape.page_words → 0 < e.size
    → IsSpaceOver space count extents → IsFreePlace space.shape extents e.size e.place → IsGoodPlace space.shape extents e
good_place space count extents e words some over place =
    elim place [
      | inl fits ↦ good_fit space count extents e words some over fits
      | inr run ↦ good_run space.shape extents e words some (sizes_of space count extents over) run
    ]
