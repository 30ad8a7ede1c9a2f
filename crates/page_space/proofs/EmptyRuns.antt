-- The walk over the pages that looks for a run of empty ones.
use Rattle.std.proofs.Common.{◌≡◌, ℕ, ◌+◌, ◌-◌, ◌*◌, ◌<◌, ◌≤◌, List, refl, sym, subst, inl, inr, arith}
use Rattle.std.proofs.lemmas.Bool.{cases_lt, cases_order}
use Rattle.std.proofs.Math.Nat.{mul-le-mul_right}
use Rattle.gc_graph.specs.State.{Shape}
use Rattle.gc_graph.specs.Placement.{Extent, UsesPage, IsEmptyPage, IsPageCount, StartsEmptyRun, IsLowest, IsNowhere}
use Rattle.page_space.specs.Space.{SinceEmpty}
use Rattle.gc_graph.specs.PageNumbers.{next_page, page_before}

-- the pages from `since` up to this one are empty, and a run that begins before `since` meets an object
pub record IsEmptySince (shape : Shape) (extents : List Extent) (count page since : ℕ) : Type 0 where
  pub empty : (q : ℕ) → since ≤ q → q < page → IsEmptyPage shape extents q
  pub blocked : (q : ℕ) → q < since → (y : ℕ) × (q ≤ y) × (y < q + count) × UsesPage shape extents y

pub empty_more : (shape : Shape) (extents : List Extent) (count page since after : ℕ) → 1 ≤ count → IsEmptySince shape extents count page since
    → page < since + count → SinceEmpty shape extents page since after → IsEmptySince shape extents count (page + 1) after × (page < after + count)
empty_more shape extents count page since after some run short step =
    elim step [
      | inl used ↦
          (let is : after ≡ page + 1 = used.1 in (
            subst (IsEmptySince shape extents count (page + 1)) (sym is) (record {
              empty = λ q low high. absurd (omega arith);
              blocked = λ q before. elim (cases_lt q since) [
                | inl earlier ↦ run.blocked q earlier
                | inr later ↦ (page, omega arith, omega arith, used.0)
              ];
            }),
            omega arith,
          ))
      | inr none ↦
          (let is : after ≡ since = none.1 in (
            subst (IsEmptySince shape extents count (page + 1)) (sym is) (record {
              empty = λ q low high. elim (cases_lt q page) [
                | inl earlier ↦ run.empty q low earlier
                | inr now ↦ subst (IsEmptyPage shape extents) (let same : page ≡ q = omega arith in same) none.0
              ];
              blocked = run.blocked;
            }),
            omega arith,
          ))
    ]

count_is_one : (w size n m : ℕ) → IsPageCount w size n → IsPageCount w size m → n ≡ m
count_is_one w size n m a b =
    elim (cases_order n m) [
      | inl same ↦ same
      | inr apart ↦ elim apart [
        | inl less ↦
            (let high : size ≤ n * w = a.0 in
            let low : m * w < size + w = b.1 in
            absurd (omega (arith, page_before w n m less, next_page w n)))
        | inr more ↦
            (let high : size ≤ m * w = b.0 in
            let low : n * w < size + w = a.1 in
            absurd (omega (arith, page_before w m n more, next_page w m)))
      ]
    ]

blocked_run : (shape : Shape) (extents : List Extent) (size count page since a : ℕ) → IsPageCount shape.page_words size count
    → IsEmptySince shape extents count page since → (starts : StartsEmptyRun shape extents size a) → starts.page < since → ⊥
blocked_run shape extents size count page since a enough run starts before =
    let met : (y : ℕ) × (starts.page ≤ y) × (y < starts.page + count) × UsesPage shape extents y = run.blocked starts.page before in
    let low : starts.page ≤ met.0 = met.1 in
    let high : met.0 < starts.page + count = met.2 in
    let same : starts.count ≡ count = count_is_one shape.page_words size starts.count count starts.enough enough in
    let at : starts.page + (met.0 - starts.page) ≡ met.0 = omega arith in
    subst (IsEmptyPage shape extents) at (starts.empty (met.0 - starts.page) (omega arith)) met.3

pub run_found : (shape : Shape) (extents : List Extent) (size count page since : ℕ) → IsPageCount shape.page_words size count → page < shape.pages
    → IsEmptySince shape extents count (page + 1) since → since + count ≡ page + 1
    → IsLowest (StartsEmptyRun shape extents size) (since * shape.page_words)
run_found shape extents size count page since enough within run long = (
  record {
    page = since;
    count = count;
    enough = enough;
    within = omega arith;
    first = refl;
    empty = λ i below. run.empty (since + i) (omega arith) (omega arith);
  },
  (λ b before starts.
      elim (cases_lt starts.page since) [
        | inl earlier ↦ blocked_run shape extents size count (page + 1) since b enough run starts earlier
        | inr later ↦
            (let at : b ≡ starts.page * shape.page_words = starts.first in
            let order : since * shape.page_words ≤ starts.page * shape.page_words = mul-le-mul_right shape.page_words later in
            absurd (omega arith))
      ]),
)

pub run_nowhere : (shape : Shape) (extents : List Extent) (size count page since : ℕ) → IsPageCount shape.page_words size count → shape.pages ≤ page
    → IsEmptySince shape extents count page since → page < since + count → IsNowhere (StartsEmptyRun shape extents size)
run_nowhere shape extents size count page since enough over run short a starts =
    elim (cases_lt starts.page since) [
      | inl earlier ↦ blocked_run shape extents size count page since a enough run starts earlier
      | inr later ↦
          (let same : starts.count ≡ count = count_is_one shape.page_words size starts.count count starts.enough enough in
          let within : starts.page + starts.count ≤ shape.pages = starts.within in
          absurd (omega arith))
    ]
