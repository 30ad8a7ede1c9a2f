-- What is known of gaps where the objects stay: nothing yet, a page that is learned, blocks that were seen, and a page's
-- bound that is made tighter.
use Rattle.std.proofs.Common.{◌≡◌, ◌≢◌, ℕ, ◌+◌, ◌*◌, ◌/◌, ◌<◌, ◌≤◌, Bool, true, false, List, length, get_or, set, replicate, cond, sym, ap, ◌∙◌, inl, inr, arith}
use Rattle.std.proofs.lemmas.Bool.{cases_eq, cases_lt, cases_Bool, false≢true}
use Rattle.std.proofs.lemmas.List.{get_or_past, get_or-replicate, length-replicate, get_or-set_same, get_or-set_other}
use Rattle.std.proofs.Math.Nat.{mul-le-mul_right}
use Rattle.gc_graph.specs.State.{Shape}
use Rattle.gc_graph.specs.Placement.{Extent}
use Rattle.gap_bounds.specs.Gaps.{GapTable, bound_at, is_known, is_between, IsGap, KnowsGaps}
use Rattle.gap_bounds.specs.Spans.{between_from, between_parts, not_between}
use Rattle.gc_graph.specs.PageNumbers.{next_page}

pub same_in : {X : Type 0} (n i : ℕ) (x : X) → get_or (replicate n x) i x ≡ x
same_in {X = X} n i x = elim (cases_lt i n) [
  | inl within ↦ get_or-replicate n i x x within
  | inr past ↦ get_or_past (replicate n x) i x (omega (arith, length-replicate {A = X} n x))
]

pub nothing_known : (shape : Shape) (es : List Extent) (gaps : GapTable) (n m : ℕ) → gaps.known ≡ replicate n false → gaps.first ≡ replicate m 0
    → KnowsGaps shape es gaps
nothing_known shape es gaps n m known first =
    let unknown = λ (page : ℕ). let e : is_known gaps page ≡ false = ap (λ xs. get_or xs page false) known ∙ same_in {X = Bool} n page false in e in
    let low = λ (class : ℕ). let e : get_or gaps.first class 0 ≡ 0 = ap (λ xs. get_or xs class 0) first ∙ same_in {X = ℕ} m class 0 in e in
    record {
      bounded = λ page size a is gap. absurd (false≢true (sym (unknown page) ∙ is));
      most = λ page size a is gap. absurd (false≢true (sym (unknown page) ∙ is));
      first = λ class page size a has least gap. omega (arith, low class);
      unknown = λ class page has is. omega (arith, low class);
    }

-- blocks got a bound that holds
pub record SetsBounds (old new : GapTable) (from end bound : ℕ) : Type 0 where
  pub bounds : (block : ℕ) → get_or new.bounds block 0 ≡ cond (is_between from end block) bound (get_or old.bounds block 0)
  pub most : new.most ≡ old.most
  pub known : new.known ≡ old.known
  pub first : new.first ≡ old.first

pub bounds_set : (shape : Shape) (es : List Extent) (old new : GapTable) (first end bound : ℕ) → SetsBounds old new first end bound
    → ((page size a : ℕ) → IsGap shape es size page a → first ≤ a / 64 → a / 64 < end → size ≤ bound) → KnowsGaps shape es old → KnowsGaps shape es new
bounds_set shape es old new first end bound sets holds knows =
    let same = λ (q : ℕ). let e : is_known new q ≡ is_known old q = ap (λ xs. get_or xs q false) sets.known in e in
    record {
      bounded = λ page size a is gap. elim (cases_Bool (is_between first end (a / 64))) [
        | inl inside ↦
            (let between : (first ≤ a / 64) × (a / 64 < end) = between_parts first end (a / 64) inside in
            omega (
              arith,
              sets.bounds (a / 64),
              ap (λ t. cond t bound (get_or old.bounds (a / 64) 0)) inside,
              holds page size a gap between.0 between.1,
            ))
        | inr outside ↦
            omega (
              arith,
              sets.bounds (a / 64),
              ap (λ t. cond t bound (get_or old.bounds (a / 64) 0)) outside,
              knows.bounded page size a (sym (same page) ∙ is) gap,
            )
      ];
      most = λ page size a is gap. omega (arith, ap (λ xs. get_or xs page 0) sets.most, knows.most page size a (sym (same page) ∙ is) gap);
      first = λ class page size a has least gap. omega (arith, ap (λ xs. get_or xs class 0) sets.first, knows.first class page size a has least gap);
      unknown = λ class page has is. omega (arith, ap (λ xs. get_or xs class 0) sets.first, knows.unknown class page has (sym (same page) ∙ is));
    }

-- a gap that isn't empty begins in a block of its page
block_in_page : (shape : Shape) (es : List Extent) (size page a blocks : ℕ) → shape.page_words ≡ 64 * blocks → 1 ≤ size → IsGap shape es size page a
    → (page * blocks ≤ a / 64) × (a / 64 < page * blocks + blocks)
block_in_page shape es size page a blocks words some gap =
    let first : page * shape.page_words ≤ a = gap.first in
    let last : a + size ≤ (page + 1) * shape.page_words = gap.last in
    let start : page * shape.page_words ≡ page * (64 * blocks) = ap (λ w. page * w) words in
    (omega arith, omega (arith, next_page shape.page_words page))

-- a page's bound was set to one that no block's exceeds
pub most_set : (shape : Shape) (es : List Extent) (old new : GapTable) (page blocks : ℕ) → shape.page_words ≡ 64 * blocks → new.bounds ≡ old.bounds
    → new.known ≡ old.known → new.first ≡ old.first → ((q : ℕ) → q ≢ page → get_or new.most q 0 ≡ get_or old.most q 0)
    → ((block : ℕ) → page * blocks ≤ block → block < page * blocks + blocks → get_or old.bounds block 0 ≤ get_or new.most page 0)
    → KnowsGaps shape es old → KnowsGaps shape es new
most_set shape es old new page blocks words bounds known first elsewhere here knows =
    let same = λ (q : ℕ). let e : is_known new q ≡ is_known old q = ap (λ xs. get_or xs q false) known in e in
    record {
      bounded = λ q size a is gap. omega (arith, ap (λ xs. get_or xs (a / 64) 0) bounds, knows.bounded q size a (sym (same q) ∙ is) gap);
      most = λ q size a is gap. elim (cases_eq q page) [
        | inl now ↦ elim (cases_lt 0 size) [
          | inl some ↦
              (let block : (q * blocks ≤ a / 64) × (a / 64 < q * blocks + blocks) = block_in_page shape es size q a blocks words some gap in
              let rows : q * blocks ≡ page * blocks = ap (λ p. p * blocks) now in
              omega (
                arith,
                ap (λ p. get_or new.most p 0) now,
                knows.bounded q size a (sym (same q) ∙ is) gap,
                here (a / 64) (omega (arith, block.0)) (omega (arith, block.1)),
              ))
          | inr none ↦ omega arith
        ]
        | inr other ↦ omega (arith, elsewhere q other, knows.most q size a (sym (same q) ∙ is) gap)
      ];
      first = λ class q size a has least gap. omega (arith, ap (λ xs. get_or xs class 0) first, knows.first class q size a has least gap);
      unknown = λ class q has is. omega (arith, ap (λ xs. get_or xs class 0) first, knows.unknown class q has (sym (same q) ∙ is));
    }

-- a page became known, with bounds that no gap exceeds
pub record Learns (old new : GapTable) (page blocks : ℕ) : Type 0 where
  pub row : page < length old.most
  pub bounds : (block : ℕ) → get_or new.bounds block 0 ≡ cond (is_between (page * blocks) (page * blocks + blocks) block) 16384 (get_or old.bounds block 0)
  pub most : new.most ≡ set old.most page 16384
  pub known : is_known new page ≡ true
  pub others : (q : ℕ) → q ≢ page → is_known new q ≡ is_known old q
  pub first : new.first ≡ old.first

fits_page : (shape : Shape) (es : List Extent) (q size a : ℕ) → IsGap shape es size q a → size ≤ shape.page_words
fits_page shape es q size a gap =
    let low : q * shape.page_words ≤ a = gap.first in
    let high : a + size ≤ (q + 1) * shape.page_words = gap.last in
    omega (arith, next_page shape.page_words q)

-- a block of another page is none of the page's
other_block : (page q blocks block : ℕ) → q ≢ page → q * blocks ≤ block → block < q * blocks + blocks
    → is_between (page * blocks) (page * blocks + blocks) block ≡ false
other_block page q blocks block other low high =
    not_between (page * blocks) (page * blocks + blocks) block (λ from to. elim (cases_lt q page) [
      | inl less ↦ omega (arith, mul-le-mul_right blocks less, next_page blocks q)
      | inr more ↦ (let over : page < q = omega (arith, other) in omega (arith, mul-le-mul_right blocks over, next_page blocks page))
    ])

learned_bounds : (shape : Shape) (es : List Extent) (old new : GapTable) (page blocks q size a : ℕ) → shape.page_words ≡ 64 * blocks
    → shape.page_words ≤ 16384 → Learns old new page blocks → KnowsGaps shape es old → 1 ≤ size → is_known new q ≡ true → IsGap shape es size q a
    → size ≤ bound_at new a
learned_bounds shape es old new page blocks q size a words few learns knows some is gap =
    let block : (q * blocks ≤ a / 64) × (a / 64 < q * blocks + blocks) = block_in_page shape es size q a blocks words some gap in
    let low : q * blocks ≤ a / 64 = block.0 in
    let high : a / 64 < q * blocks + blocks = block.1 in
    elim (cases_eq q page) [
      | inl now ↦
          (let rows : q * blocks ≡ page * blocks = ap (λ p. p * blocks) now in
          omega (
            arith,
            learns.bounds (a / 64),
            ap (λ t. cond t 16384 (get_or old.bounds (a / 64) 0))
                (between_from (page * blocks) (page * blocks + blocks) (a / 64) (omega arith) (omega arith)),
            fits_page shape es q size a gap,
          ))
      | inr other ↦
          omega (
            arith,
            learns.bounds (a / 64),
            ap (λ t. cond t 16384 (get_or old.bounds (a / 64) 0)) (other_block page q blocks (a / 64) other low high),
            knows.bounded q size a (sym (learns.others q other) ∙ is) gap,
          )
    ]

pub learned : (shape : Shape) (es : List Extent) (old new : GapTable) (page blocks : ℕ) → shape.page_words ≡ 64 * blocks → shape.page_words ≤ 16384
    → Learns old new page blocks → KnowsGaps shape es old → KnowsGaps shape es new
learned shape es old new page blocks words few learns knows = record {
  bounded = λ q size a is gap. elim (cases_lt 0 size) [
    | inl some ↦ learned_bounds shape es old new page blocks q size a words few learns knows some is gap
    | inr none ↦ omega arith
  ];
  most = λ q size a is gap. elim (cases_eq q page) [
    | inl now ↦
        omega (
          arith,
          ap (λ p. get_or new.most p 0) now,
          ap (λ xs. get_or xs page 0) learns.most,
          get_or-set_same old.most page 16384 0 learns.row,
          fits_page shape es q size a gap,
        )
    | inr other ↦
        omega (
          arith,
          ap (λ xs. get_or xs q 0) learns.most,
          get_or-set_other old.most page q 16384 0 other,
          knows.most q size a (sym (learns.others q other) ∙ is) gap,
        )
  ];
  first = λ class q size a has least gap. omega (arith, ap (λ xs. get_or xs class 0) learns.first, knows.first class q size a has least gap);
  unknown = λ class q has is. elim (cases_eq q page) [
    | inl now ↦ absurd (false≢true (sym is ∙ ap (is_known new) now ∙ learns.known))
    | inr other ↦ omega (arith, ap (λ xs. get_or xs class 0) learns.first, knows.unknown class q has (sym (learns.others q other) ∙ is))
  ];
}
