-- A space with one object less.
use Rattle.std.proofs.Common.{◌≡◌, ℕ, ◌+◌, ◌-◌, ◌<◌, ◌≤◌, List, get_or, refl, ap, ◌∙◌, subst, arith, cond}
use Rattle.std.specs.List.{Contains, filter, sum_by, count_by}
use Rattle.gc_graph.specs.Placement.{Extent, HasWord, IsTaken}
use Rattle.page_space.specs.Pages.{PageTable, is_in_page, free_words}
use Rattle.gap_bounds.specs.Gaps.{GapTable, KnowsGaps}
use Rattle.page_space.specs.Space.{SpaceView, IsSpaceOver}
use Rattle.page_space.proofs.FreeWords.{TakesMore, free_differs}
use Rattle.page_space.proofs.Extents.{any_from_taken, any_none, any_same, others, contains_filter, from_filter, differ_filter, one_less, length_less}

-- the table counts the object no longer
pub record Leaves (w : ℕ) (e : Extent) (old new : PageTable) : Type 0 where
  pub objects : (page : ℕ) → get_or old.objects page 0 ≡ get_or new.objects page 0 + cond (is_in_page w page e) 1 0
  pub buckets : new.buckets ≡ old.buckets
  pub starts : new.starts ≡ old.starts

-- objects with a common word are one
abbrev pub LieApart : List Extent → Type 0
LieApart es = (d e : Extent) (x : ℕ) → Contains es d → Contains es e → HasWord d x → HasWord e x → d ≡ e

was : (es : List Extent) (e : Extent) (x : ℕ) → IsTaken (filter (others e.place) es) x → IsTaken es x
was es e x taken = (taken.0, (from_filter es e.place taken.0 taken.1).0, taken.2)

stays : (es : List Extent) (e : Extent) (x : ℕ) → (HasWord e x → ⊥) → ((d : Extent) → Contains es d → d.place ≡ e.place → d ≡ e) → IsTaken es x
    → IsTaken (filter (others e.place) es) x
stays es e x outside one taken =
    let other : taken.0.place ≡ e.place → ⊥ = (λ at. outside (subst (λ (d : Extent). HasWord d x) (one taken.0 taken.1 at) taken.2)) in
    (taken.0, contains_filter es e.place taken.0 other taken.1, taken.2)

takes_less : (es : List Extent) (e : Extent) → LieApart es → Contains es e → 0 < e.size
    → ((d : Extent) → Contains es d → d.place ≡ e.place → d ≡ e) → TakesMore es (filter (others e.place) es) e.place (e.place + e.size)
takes_less es e apart there some one = record {
  order = omega arith;
  taken = λ x low high. any_from_taken es e x there (low, high);
  free = λ x low high. any_none (filter (others e.place) es) x (λ taken.
      let from : Contains es taken.0 × (taken.0.place ≡ e.place → ⊥) = from_filter es e.place taken.0 taken.1 in
      from.1 (ap (λ (d : Extent). d.place) (apart taken.0 e x from.0 there taken.2 (low, high))));
  below = λ x low. any_same es (filter (others e.place) es) x
      (λ taken. stays es e x (λ c. let first : e.place ≤ x = c.0 in omega arith) one taken) (was es e x);
  above = λ x high. any_same es (filter (others e.place) es) x
      (λ taken. stays es e x (λ c. let last : x < e.place + e.size = c.1 in omega arith) one taken) (was es e x);
}

pub left : (space : SpaceView) (count : ℕ) (es : List Extent) (e : Extent) (table : PageTable) (gaps : GapTable) → 0 < space.shape.page_words → IsSpaceOver space count es → LieApart es → Contains es e → e.place + e.size ≤ count → Leaves space.shape.page_words e space.table table → KnowsGaps space.shape (filter (others e.place) es) gaps
    → IsSpaceOver (record { shape = space.shape; words = space.words; objects = space.objects - 1; used = space.used - e.size; table = table; gaps = gaps }) count (filter (others e.place) es)
left space count es e table gaps some over apart there inside leaves knows =
    let w : ℕ = space.shape.page_words in
    let fewer : List Extent = filter (others e.place) es in
    let from = λ (d : Extent) (h : Contains (filter (others e.place) es) d). (from_filter es e.place d h).0 in
    let one : (d : Extent) → Contains es d → d.place ≡ e.place → d ≡ e =
    (λ d d_there at. let same : d.place ≡ e.place = at in let size : 2 ≤ d.size = over.sizes d d_there in
    let size_e : 2 ≤ e.size = over.sizes e there in
    apart d e e.place d_there there (omega arith, omega arith) (omega arith, omega arith)) in
    let total : sum_by (λ (d : Extent). d.size) (filter (others e.place) es) + e.size ≡ sum_by (λ (d : Extent). d.size) es =
    one_less (λ d. d.size) es e e.place over.differ there refl in
    record {
      seat = over.seat;
      differ = differ_filter (others e.place) es over.differ;
      sizes = λ d h. over.sizes d (from d h);
      placed = λ d h. over.placed d (from d h);
      shared = λ page c d c_there d_there c_in d_in. over.shared page c d (from c c_there) (from d d_there) c_in d_in;
      alone = λ page c d c_there d_there c_in d_in large. over.alone page c d (from c c_there) (from d d_there) c_in d_in large;
      objects = omega (arith, over.objects, length_less es e e.place over.differ there refl);
      used = omega (arith, over.used);
      free =
          (let more : free_words es count + e.size ≡ free_words (filter (others e.place) es) count =
          free_differs es (filter (others e.place) es) e.place e.size count (takes_less es e apart there (let size : 2 ≤ e.size = over.sizes e there in omega arith) one) inside in
          let before : free_words es count + sum_by (λ (d : Extent). d.size) es ≡ count = over.free in
          omega arith);
      held = λ page within.
          let less : count_by (is_in_page w page) (filter (others e.place) es) + cond (is_in_page w page e) 1 0 ≡ count_by (is_in_page w page) es =
          one_less (λ d. cond (is_in_page w page d) 1 0) es e e.place over.differ there refl in
          omega (arith, leaves.objects page, over.held page within);
      buckets = λ page d d_there d_in. ap (λ bs. get_or bs page 0) leaves.buckets ∙ over.buckets page d (from d d_there) d_in;
      starts = λ page d d_there d_in. ap (λ ps. get_or ps page 0) leaves.starts ∙ over.starts page d (from d d_there) d_in;
      gaps = knows;
    }
