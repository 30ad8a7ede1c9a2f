-- What the table tells of the pages.
use Rattle.std.proofs.Common.{◌≡◌, ℕ, ◌+◌, ◌*◌, ◌<◌, ◌≤◌, Bool, true, false, List, [], ◌∷◌, length, map, get_or, refl, sym, ap, ◌∙◌, inl, inr, arith, cond, ltb, ◌↔◌}
use Rattle.std.specs.List.{Contains, count_by}
use Rattle.std.proofs.lemmas.Bool.{cases_lt, cases_Bool, ltb-true, lt-ltb, false≢true, true≢false}
use Rattle.std.proofs.lemmas.List.{length-map, get_or-map, get_or_past}
use Rattle.std.proofs.lemmas.List.Sums.{sum_by-cons}
use Rattle.gc_graph.specs.State.{Shape}
use Rattle.gc_graph.specs.Placement.{Extent, HasWord, PageHasBucket, UsesPage, IsUsedPages}
use Rattle.page_space.specs.Pages.{is_in_page, count_in_use}
use Rattle.page_space.specs.Space.{SpaceView, IsSpaceOver}
use Rattle.page_space.proofs.PageSpan.{in_page_from, in_page_word}
use Rattle.gc_graph.specs.Members.{Contains-head, Contains-cons, Contains-cons_cases}
use Rattle.page_space.proofs.GoodPlaces.{sizes_of}

-- a count is above 0 exactly where the test holds of one
pub some_counted : (f : Extent → Bool) (es : List Extent) → 0 < count_by f es → (e : Extent) × Contains es e × (f e ≡ true)
some_counted f [] some = absurd (omega arith)
some_counted f (e ∷ es) some =
    elim (cases_Bool (f e)) [
      | inl is ↦ (e, Contains-head e es, is)
      | inr isnt ↦
          (let first : count_by f (e ∷ es) ≡ cond (f e) 1 0 + count_by f es = sum_by-cons (λ d. cond (f d) 1 0) e es in
          let none : let k : ℕ = cond (f e) 1 0 in k ≡ 0 = ap (λ b. let k : ℕ = cond b 1 0 in k) isnt in
          let rest : (d : Extent) × Contains es d × (f d ≡ true) = some_counted f es (omega arith) in
          (rest.0, Contains-cons e es rest.0 rest.1, rest.2))
    ]

pub counted_some : (f : Extent → Bool) (es : List Extent) (e : Extent) → Contains es e → f e ≡ true → 0 < count_by f es
counted_some f [] e there is = absurd (omega (arith, there.1))
counted_some f (d ∷ es) e there is =
    let first : count_by f (d ∷ es) ≡ cond (f d) 1 0 + count_by f es = sum_by-cons (λ c. cond (f c) 1 0) d es in
    elim (Contains-cons_cases d es e there) [
      | inl same ↦
          (let one : let k : ℕ = cond (f d) 1 0 in k ≡ 1 = ap (λ b. let k : ℕ = cond b 1 0 in k) (ap f same ∙ is) in omega arith)
      | inr later ↦ (let rest : 0 < count_by f es = counted_some f es e later is in omega arith)
    ]

-- the page holds an object exactly where the table counts one
pub held_is_used : (space : SpaceView) (count : ℕ) (es : List Extent) (page : ℕ) → 0 < space.shape.page_words → IsSpaceOver space count es
    → page < space.shape.pages → (0 < get_or space.table.objects page 0) ↔ UsesPage space.shape es page
held_is_used space count es page words over within =
    let w : ℕ = space.shape.page_words in
    let held : get_or space.table.objects page 0 ≡ count_by (is_in_page w page) es = over.held page within in (
      (λ some.
          let one : (e : Extent) × Contains es e × (is_in_page w page e ≡ true) = some_counted (is_in_page w page) es (omega arith) in
          let word : (a : ℕ) × HasWord one.0 a × (page * w ≤ a) × (a < (page + 1) * w) = in_page_word w page one.0 words (sizes_of space count es over one.0 one.1) one.2 in
          (word.0, word.2, word.3, (one.0, one.1, word.1))),
      (λ uses.
          let e_in : is_in_page w page uses.3.0 ≡ true = in_page_from w page uses.3.0 uses.0 words uses.3.2 uses.1 uses.2 in
          omega (arith, counted_some (is_in_page w page) es uses.3.0 uses.3.1 e_in)),
    )

pub bucket_of_held : (space : SpaceView) (count : ℕ) (es : List Extent) (page bucket : ℕ) → 0 < space.shape.page_words → IsSpaceOver space count es → page < space.shape.pages → 0 < get_or space.table.objects page 0
    → (get_or space.table.buckets page 0 ≡ bucket) ↔ PageHasBucket space.shape.page_words es page bucket
bucket_of_held space count es page bucket words over within some =
    let w : ℕ = space.shape.page_words in (
      (λ is.
          let held : get_or space.table.objects page 0 ≡ count_by (is_in_page w page) es = over.held page within in
          let one : (e : Extent) × Contains es e × (is_in_page w page e ≡ true) = some_counted (is_in_page w page) es (omega arith) in
          let word : (a : ℕ) × HasWord one.0 a × (page * w ≤ a) × (a < (page + 1) * w) = in_page_word w page one.0 words (sizes_of space count es over one.0 one.1) one.2 in
          (one.0, word.0, one.1, word.1, word.2, word.3, sym (over.buckets page one.0 one.1 one.2) ∙ is)),
      (λ has. over.buckets page has.0 has.2 (in_page_from w page has.0 has.1 words has.3 has.4 has.5) ∙ has.6),
    )

pub uses_of_bucket : (shape : Shape) (es : List Extent) (page bucket : ℕ) → PageHasBucket shape.page_words es page bucket → UsesPage shape es page
uses_of_bucket shape es page bucket has = (has.1, has.4, has.5, (has.0, has.2, has.3))

count_flags : (xs : List ℕ) → count_in_use xs ≡ count_by (λ (flag : Bool). flag) (map (λ n. ltb 0 n) xs)
count_flags [] = refl
count_flags (x ∷ xs) =
    let one : count_in_use (x ∷ xs) ≡ cond (ltb 0 x) 1 0 + count_in_use xs = sum_by-cons (λ n. cond (ltb 0 n) 1 0) x xs in
    let two : count_by (λ (flag : Bool). flag) (ltb 0 x ∷ map (λ n. ltb 0 n) xs) ≡ cond (ltb 0 x) 1 0 + count_by (λ (flag : Bool). flag) (map (λ n. ltb 0 n) xs) =
    sum_by-cons (λ (flag : Bool). cond flag 1 0) (ltb 0 x) (map (λ n. ltb 0 n) xs) in
    one ∙ ap (λ n. cond (ltb 0 x) 1 0 + n) (count_flags xs) ∙ sym two

pub used_pages : (space : SpaceView) (count : ℕ) (es : List Extent) (n : ℕ) → 0 < space.shape.page_words → IsSpaceOver space count es
    → length space.table.objects ≡ space.shape.pages → n ≡ count_in_use space.table.objects → IsUsedPages space.shape es n
used_pages space count es n words over long is =
    let objects : List ℕ = space.table.objects in
    let flag = λ (page : ℕ) (within : page < length objects). get_or-map (λ n. ltb 0 n) objects page 0 false within in
    record {
      flags = map (λ n. ltb 0 n) objects;
      whole = length-map objects (λ n. ltb 0 n) ∙ long;
      used = λ page set. elim (cases_lt page (length objects)) [
        | inl within ↦
            (held_is_used space count es page words over (omega arith)).0
            (ltb-true 0 (get_or objects page 0) (sym (flag page within) ∙ set))
        | inr past ↦
            absurd (false≢true (sym (get_or_past (map (λ n. ltb 0 n) objects) page false (omega (arith, length-map objects (λ n. ltb 0 n)))) ∙ set))
      ];
      empty = λ page within clear uses.
          let below : page < length objects = omega arith in
          true≢false (sym (lt-ltb 0 (get_or objects page 0) ((held_is_used space count es page words over within).1 uses))
          ∙ sym (flag page below) ∙ clear);
      count = is ∙ count_flags objects;
    }
