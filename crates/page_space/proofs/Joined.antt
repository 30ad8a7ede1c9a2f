-- A space with one more object.
use Rattle.std.proofs.Common.{◌≡◌, ℕ, ◌+◌, ◌<◌, ◌≤◌, Bool, true, List, [], ◌∷◌, ◌++◌, get_or, sym, ap, ◌∙◌, subst, inl, inr, arith, cond}
use Rattle.std.specs.List.{Contains, sum_by, count_by}
use Rattle.std.proofs.lemmas.Bool.{cases_Bool}
use Rattle.std.proofs.lemmas.List.{length_push}
use Rattle.std.proofs.lemmas.List.Elements.{Contains-push, Contains-append_left, Contains-push_cases}
use Rattle.std.proofs.lemmas.List.Sums.{sum_by_push}
use Rattle.gc_graph.specs.State.{Shape}
use Rattle.gc_graph.specs.Placement.{Extent, HasWord, IsTaken, bucket_of}
use Rattle.page_space.specs.Pages.{PageTable, first_page, is_in_page, free_words}
use Rattle.gap_bounds.specs.Gaps.{GapTable, KnowsGaps}
use Rattle.page_space.specs.Space.{SpaceView, IsSpaceOver, IsPlacedWell}
use Rattle.page_space.proofs.FreeWords.{TakesMore, free_differs}
use Rattle.page_space.proofs.Extents.{any_from_taken, any_none, any_same, differ_push}
use Rattle.page_space.proofs.GoodPlaces.{IsGoodPlace, sizes_of, starts_in_page}

-- the table counts the object in each of its pages
pub record Enters (w : ℕ) (e : Extent) (old new : PageTable) : Type 0 where
  pub objects : (page : ℕ) → get_or new.objects page 0 ≡ get_or old.objects page 0 + cond (is_in_page w page e) 1 0
  pub buckets : (page : ℕ) → get_or new.buckets page 0 ≡ cond (is_in_page w page e) (bucket_of w e.size) (get_or old.buckets page 0)
  pub starts : (page : ℕ) → get_or new.starts page 0 ≡ cond (is_in_page w page e) (first_page w e) (get_or old.starts page 0)

pub one_more : (f : Extent → Bool) (es : List Extent) (e : Extent) → count_by f (es ++ e ∷ []) ≡ count_by f es + cond (f e) 1 0
one_more f es e = sum_by_push (λ d. cond (f d) 1 0) es e

taken_push : (es : List Extent) (e : Extent) (x : ℕ) → IsTaken es x → IsTaken (es ++ e ∷ []) x
taken_push es e x taken = (taken.0, Contains-append_left es (e ∷ []) taken.0 taken.1, taken.2)

not_new : (es : List Extent) (e : Extent) (x : ℕ) → (HasWord e x → ⊥) → IsTaken (es ++ e ∷ []) x → IsTaken es x
not_new es e x outside taken =
    elim (Contains-push_cases es e taken.0 taken.1) [
      | inl old ↦ (taken.0, old, taken.2)
      | inr new ↦ absurd (outside (subst (λ (d : Extent). HasWord d x) (sym new) taken.2))
    ]

-- the words of the new object were free
pub takes_more : (shape : Shape) (es : List Extent) (e : Extent) → IsGoodPlace shape es e
    → TakesMore (es ++ e ∷ []) es e.place (e.place + e.size)
takes_more shape es e good = record {
  order = omega arith;
  taken = λ x low high. any_from_taken (es ++ e ∷ []) e x (Contains-push es e) (low, high);
  free = λ x low high. any_none es x (good.free x (low, high));
  below = λ x low. any_same (es ++ e ∷ []) es x (λ taken. not_new es e x (λ c. let first : e.place ≤ x = c.0 in omega arith) taken) (taken_push es e x);
  above = λ x high. any_same (es ++ e ∷ []) es x (λ taken. not_new es e x (λ c. let last : x < e.place + e.size = c.1 in omega arith) taken) (taken_push es e x);
}

-- objects that share a page are of one bucket, the new one with them
shared_push : (space : SpaceView) (count : ℕ) (es : List Extent) (e : Extent) → IsSpaceOver space count es → IsGoodPlace space.shape es e
    → (page : ℕ) (c d : Extent) → Contains (es ++ e ∷ []) c → Contains (es ++ e ∷ []) d → is_in_page space.shape.page_words page c ≡ true
    → is_in_page space.shape.page_words page d ≡ true → bucket_of space.shape.page_words c.size ≡ bucket_of space.shape.page_words d.size
shared_push space count es e over good page c d c_there d_there c_in d_in =
    let w : ℕ = space.shape.page_words in
    elim (Contains-push_cases es e c c_there) [
      | inl c_old ↦ elim (Contains-push_cases es e d d_there) [
        | inl d_old ↦ over.shared page c d c_old d_old c_in d_in
        | inr d_new ↦ (good.shared page c c_old c_in (ap (is_in_page w page) d_new ∙ d_in)).0 ∙ ap (λ (f : Extent). bucket_of w f.size) d_new
      ]
      | inr c_new ↦ elim (Contains-push_cases es e d d_there) [
        | inl d_old ↦ sym (ap (λ (f : Extent). bucket_of w f.size) c_new) ∙ sym (good.shared page d d_old d_in (ap (is_in_page w page) c_new ∙ c_in)).0
        | inr d_new ↦ ap (λ (f : Extent). bucket_of w f.size) (sym c_new ∙ d_new)
      ]
    ]

-- an object that shares a page with a large one is that one
alone_push : (space : SpaceView) (count : ℕ) (es : List Extent) (e : Extent) → IsSpaceOver space count es → IsGoodPlace space.shape es e
    → (page : ℕ) (c d : Extent) → Contains (es ++ e ∷ []) c → Contains (es ++ e ∷ []) d → is_in_page space.shape.page_words page c ≡ true
    → is_in_page space.shape.page_words page d ≡ true → bucket_of space.shape.page_words d.size ≡ 4 → c ≡ d
alone_push space count es e over good page c d c_there d_there c_in d_in large =
    let w : ℕ = space.shape.page_words in
    elim (Contains-push_cases es e c c_there) [
      | inl c_old ↦ elim (Contains-push_cases es e d d_there) [
        | inl d_old ↦ over.alone page c d c_old d_old c_in d_in large
        | inr d_new ↦ absurd ((good.shared page c c_old c_in (ap (is_in_page w page) d_new ∙ d_in)).1 (ap (λ (f : Extent). bucket_of w f.size) d_new ∙ large))
      ]
      | inr c_new ↦ elim (Contains-push_cases es e d d_there) [
        | inl d_old ↦
            (let both = good.shared page d d_old d_in (ap (is_in_page w page) c_new ∙ c_in) in
            absurd (both.1 (sym both.0 ∙ large)))
        | inr d_new ↦ sym c_new ∙ d_new
      ]
    ]

-- the table tells the bucket of each page, those of the new object with them
buckets_push : (space : SpaceView) (count : ℕ) (es : List Extent) (e : Extent) (table : PageTable) → IsSpaceOver space count es
    → IsGoodPlace space.shape es e → Enters space.shape.page_words e space.table table
    → (page : ℕ) (d : Extent) → Contains (es ++ e ∷ []) d → is_in_page space.shape.page_words page d ≡ true
    → get_or table.buckets page 0 ≡ bucket_of space.shape.page_words d.size
buckets_push space count es e table over good enters page d there d_in =
    let w : ℕ = space.shape.page_words in
    elim (Contains-push_cases es e d there) [
      | inl old ↦ elim (cases_Bool (is_in_page w page e)) [
        | inl e_in ↦
            enters.buckets page ∙ ap (λ t. cond t (bucket_of w e.size) (get_or space.table.buckets page 0)) e_in
            ∙ sym (good.shared page d old d_in e_in).0
        | inr e_out ↦
            enters.buckets page ∙ ap (λ t. cond t (bucket_of w e.size) (get_or space.table.buckets page 0)) e_out
            ∙ over.buckets page d old d_in
      ]
      | inr new ↦
          enters.buckets page ∙ ap (λ t. cond t (bucket_of w e.size) (get_or space.table.buckets page 0)) (ap (is_in_page w page) new ∙ d_in)
          ∙ ap (λ (f : Extent). bucket_of w f.size) new
    ]

-- the table tells where the objects of each page start, those of the new object's pages with them
starts_push : (space : SpaceView) (count : ℕ) (es : List Extent) (e : Extent) (table : PageTable) → 0 < space.shape.page_words
    → IsSpaceOver space count es → 2 ≤ e.size → IsGoodPlace space.shape es e → Enters space.shape.page_words e space.table table
    → (page : ℕ) (d : Extent) → Contains (es ++ e ∷ []) d → is_in_page space.shape.page_words page d ≡ true
    → get_or table.starts page 0 ≡ first_page space.shape.page_words d
starts_push space count es e table words over some good enters page d there d_in =
    let w : ℕ = space.shape.page_words in
    elim (Contains-push_cases es e d there) [
      | inl old ↦ elim (cases_Bool (is_in_page w page e)) [
        | inl e_in ↦
            (let both = good.shared page d old d_in e_in in
            let d_starts : first_page w d ≡ page =
            starts_in_page space.shape d page words (sizes_of space count es over d old) (over.placed d old) (λ large. both.1 (sym both.0 ∙ large)) d_in in
            let e_starts : first_page w e ≡ page = starts_in_page space.shape e page words (omega arith) good.well both.1 e_in in
            enters.starts page ∙ ap (λ t. cond t (first_page w e) (get_or space.table.starts page 0)) e_in ∙ e_starts ∙ sym d_starts)
        | inr e_out ↦
            enters.starts page ∙ ap (λ t. cond t (first_page w e) (get_or space.table.starts page 0)) e_out
            ∙ over.starts page d old d_in
      ]
      | inr new ↦
          enters.starts page ∙ ap (λ t. cond t (first_page w e) (get_or space.table.starts page 0)) (ap (is_in_page w page) new ∙ d_in)
          ∙ ap (first_page w) new
    ]

pub joined : (space : SpaceView) (count : ℕ) (es : List Extent) (e : Extent) (table : PageTable) (gaps : GapTable) → 0 < space.shape.page_words → IsSpaceOver space count es → 2 ≤ e.size
    → IsGoodPlace space.shape es e → Enters space.shape.page_words e space.table table → KnowsGaps space.shape (es ++ e ∷ []) gaps
    → IsSpaceOver (record { shape = space.shape; words = space.words; objects = space.objects + 1; used = space.used + e.size; table = table; gaps = gaps }) count (es ++ e ∷ [])
joined space count es e table gaps words over some good enters knows =
    let w : ℕ = space.shape.page_words in
    record {
      seat = over.seat;
      differ = differ_push es e over.differ (λ d there same.
          let at : d.place ≡ e.place = same in
          let size : 2 ≤ d.size = over.sizes d there in
          good.free e.place (omega arith, omega arith) (d, there, (omega arith, omega arith)));
      sizes = λ d there. elim (Contains-push_cases es e d there) [
        | inl old ↦ over.sizes d old
        | inr new ↦ omega (arith, ap (λ (f : Extent). f.size) new)
      ];
      placed = λ d there. elim (Contains-push_cases es e d there) [
        | inl old ↦ over.placed d old
        | inr new ↦ subst (IsPlacedWell space.shape) new good.well
      ];
      shared = shared_push space count es e over good;
      alone = alone_push space count es e over good;
      objects = ap (λ n. n + 1) over.objects ∙ sym (length_push es e);
      used = ap (λ n. n + e.size) over.used ∙ sym (sum_by_push (λ d. d.size) es e);
      free =
          (let less : free_words (es ++ e ∷ []) count + e.size ≡ free_words es count =
          free_differs (es ++ e ∷ []) es e.place e.size count (takes_more space.shape es e good) (omega (arith, good.inside, over.seat)) in
          let total : sum_by (λ (d : Extent). d.size) (es ++ e ∷ []) ≡ sum_by (λ (d : Extent). d.size) es + e.size = sum_by_push (λ d. d.size) es e in
          let before : free_words es count + sum_by (λ (d : Extent). d.size) es ≡ count = over.free in
          omega arith);
      held = λ page within. enters.objects page ∙ ap (λ n. n + cond (is_in_page w page e) 1 0) (over.held page within) ∙ sym (one_more (is_in_page w page) es e);
      buckets = buckets_push space count es e table over good enters;
      starts = starts_push space count es e table words over some good enters;
      gaps = knows;
    }
