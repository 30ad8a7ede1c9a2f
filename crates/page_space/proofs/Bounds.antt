-- How large the counts of a space can be, and a space without objects.
use Rattle.std.proofs.Common.{◌≡◌, ℕ, zero, suc, ◌+◌, ◌-◌, ◌*◌, ◌^◌, ◌<◌, ◌≤◌, true, List, [], ◌∷◌, length, get_or, replicate, refl, ap, ◌∙◌, inl, inr, arith}
use Rattle.atomic_table.specs.Seated.{TableId}
use Rattle.std.specs.List.{Contains, sum_by}
use Rattle.std.proofs.lemmas.Bool.{cases_lt}
use Rattle.std.proofs.lemmas.List.{get_or_past, get_or-replicate}
use Rattle.std.proofs.lemmas.List.Sums.{sum_by-cons, count_by-le-length}
use Rattle.std.proofs.Math.Nat.{mul-le-mul_right}
use Rattle.gc_graph.specs.State.{Shape}
use Rattle.gc_graph.specs.Placement.{Extent, HasWord}
use Rattle.page_space.specs.Pages.{PageTable, is_in_page, word_count, free_words}
use Rattle.gap_bounds.specs.Gaps.{GapTable, KnowsGaps}
use Rattle.page_space.specs.Space.{SpaceView, IsSpaceOver}
use Rattle.page_space.proofs.PageSpan.{in_page_word}
use Rattle.gc_graph.specs.Members.{Contains-head, Contains-cons}
use Rattle.page_space.proofs.UsedPages.{counted_some}

twice_length : (es : List Extent) → ((e : Extent) → Contains es e → 2 ≤ e.size) → 2 * length es ≤ sum_by (λ (e : Extent). e.size) es
twice_length [] sizes = omega arith
twice_length (e ∷ es) sizes =
    let size : 2 ≤ e.size = sizes e (Contains-head e es) in
    let rest : 2 * length es ≤ sum_by (λ (d : Extent). d.size) es = twice_length es (λ d there. sizes d (Contains-cons e es d there)) in
    omega (arith, sum_by-cons (λ (d : Extent). d.size) e es)

pub few_objects : (space : SpaceView) (count : ℕ) (es : List Extent) → IsSpaceOver space count es → 2 * length es ≤ count
few_objects space count es over = omega (arith, twice_length es over.sizes, over.free)

pub held_fits : (space : SpaceView) (count : ℕ) (es : List Extent) (page : ℕ) → IsSpaceOver space count es → count ≤ 2 ^ 24
    → length space.table.objects ≡ space.shape.pages → get_or space.table.objects page 0 < 2 ^ 32 - 1
held_fits space count es page over few long =
    elim (cases_lt page space.shape.pages) [
      | inl within ↦
          omega (arith, over.held page within, count_by-le-length (is_in_page space.shape.page_words page) es, few_objects space count es over)
      | inr past ↦ omega (arith, get_or_past space.table.objects page 0 (omega arith))
    ]

-- the pages of an object within the heap are pages of the heap, and the table counts it there
pub held_some : (space : SpaceView) (count : ℕ) (es : List Extent) (e : Extent) (page : ℕ) → 0 < space.shape.page_words → IsSpaceOver space count es
    → Contains es e → e.place + e.size ≤ word_count space.shape → is_in_page space.shape.page_words page e ≡ true → 0 < get_or space.table.objects page 0
held_some space count es e page words over there inside e_in =
    let w : ℕ = space.shape.page_words in
    let size : 2 ≤ e.size = over.sizes e there in
    let word : (a : ℕ) × HasWord e a × (page * w ≤ a) × (a < (page + 1) * w) = in_page_word w page e words (omega arith) e_in in
    let low : page * w ≤ word.0 = word.2 in
    let high : word.0 < e.place + e.size = word.1.1 in
    let within : page < space.shape.pages = elim (cases_lt page space.shape.pages) [
      | inl below ↦ below
      | inr past ↦ absurd (omega (arith, mul-le-mul_right w past))
    ] in
    omega (arith, over.held page within, counted_some (is_in_page w page) es e there e_in)

all_free : (n : ℕ) → free_words [] n ≡ n
all_free zero = refl
all_free (suc n) = omega (arith, all_free n)

pub empty_space : (shape : Shape) (words : TableId) (count : ℕ) (table : PageTable) (gaps : GapTable) → count ≡ word_count shape → table.objects ≡ replicate shape.pages 0
    → KnowsGaps shape [] gaps → IsSpaceOver (record { shape = shape; words = words; objects = 0; used = 0; table = table; gaps = gaps }) count []
empty_space shape words count table gaps whole zeros knows = record {
  seat = whole;
  differ = tt;
  sizes = λ e there. absurd (omega (arith, there.1));
  placed = λ e there. absurd (omega (arith, there.1));
  shared = λ page d e there _ _ _. absurd (omega (arith, there.1));
  alone = λ page d e there _ _ _ _. absurd (omega (arith, there.1));
  objects = refl;
  used = refl;
  free = omega (arith, all_free count);
  held = λ page within. ap (λ xs. get_or xs page 0) zeros ∙ get_or-replicate shape.pages page 0 0 within;
  buckets = λ page e there _. absurd (omega (arith, there.1));
  starts = λ page e there _. absurd (omega (arith, there.1));
  gaps = knows;
}
