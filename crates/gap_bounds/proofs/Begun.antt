-- Where the searches of a class begin from now on.
use Rattle.std.proofs.Common.{◌≡◌, ◌≢◌, ℕ, ◌+◌, ◌*◌, ◌/◌, ◌≤◌, false, List, get_or, sym, ap, ◌∙◌, subst, inl, inr, arith}
use Rattle.std.proofs.lemmas.Bool.{cases_eq, cases_order, true≢false}
use Rattle.gc_graph.specs.State.{Shape}
use Rattle.gc_graph.specs.Placement.{Extent}
use Rattle.gap_bounds.specs.Gaps.{GapTable, is_known, least_of, IsGap, HasClass, KnowsGaps}
use Rattle.gap_bounds.specs.Changes.{MayBegin}
use Rattle.gc_graph.specs.PageNumbers.{next_page, page_before}

-- the address of a class was set
pub record SetsFirst (old new : GapTable) (class worth : ℕ) : Type 0 where
  pub here : get_or new.first class 0 ≡ worth
  pub there : (n : ℕ) → n ≢ class → get_or new.first n 0 ≡ get_or old.first n 0
  pub bounds : new.bounds ≡ old.bounds
  pub most : new.most ≡ old.most
  pub known : new.known ≡ old.known

first_gap : (shape : Shape) (es : List Extent) (gaps : GapTable) (class page worth q size a : ℕ) → MayBegin shape es gaps class page worth
    → KnowsGaps shape es gaps → HasClass shape es class q → least_of class ≤ size → IsGap shape es size q a → worth ≤ a
first_gap shape es gaps class page worth q size a may knows has least gap =
    let w : ℕ = shape.page_words in
    let from : q * w ≤ a = gap.first in
    let to : a + size ≤ (q + 1) * w = gap.last in
    elim (cases_order q page) [
      | inl now ↦ may.worth size a (subst (HasClass shape es class) now has) least (subst (λ p. IsGap shape es size p a) now gap)
      | inr apart ↦ elim apart [
        | inl less ↦ absurd (omega (arith, page_before w q page less, may.least, may.low, knows.first class q size a has least gap))
        | inr more ↦ omega (arith, page_before w page q more, may.high)
      ]
    ]

first_unknown : (shape : Shape) (es : List Extent) (gaps : GapTable) (class page worth q : ℕ)
    → MayBegin shape es gaps class page worth → KnowsGaps shape es gaps → HasClass shape es class q → is_known gaps q ≡ false
    → worth ≤ q * shape.page_words
first_unknown shape es gaps class page worth q may knows has is =
    let w : ℕ = shape.page_words in
    elim (cases_order q page) [
      | inl now ↦ absurd (true≢false (sym (may.known (subst (HasClass shape es class) now has)) ∙ ap (is_known gaps) (sym now) ∙ is))
      | inr apart ↦ elim apart [
        | inl less ↦ absurd (omega (arith, page_before w q page less, next_page w q, may.some, may.low, knows.unknown class q has is))
        | inr more ↦ omega (arith, page_before w page q more, may.high)
      ]
    ]

pub first_set : (shape : Shape) (es : List Extent) (old new : GapTable) (class page worth : ℕ) → SetsFirst old new class worth
    → MayBegin shape es old class page worth → KnowsGaps shape es old → KnowsGaps shape es new
first_set shape es old new class page worth sets may knows =
    let same = λ (q : ℕ). let e : is_known new q ≡ is_known old q = ap (λ xs. get_or xs q false) sets.known in e in
    let here = λ (n : ℕ) (e : n ≡ class). let r : get_or new.first n 0 ≡ worth = ap (λ k. get_or new.first k 0) e ∙ sets.here in r in
    let own = λ (n q : ℕ) (e : n ≡ class) (has : HasClass shape es n q).
    let r : HasClass shape es class q = subst (λ k. HasClass shape es k q) e has in r in
    record {
      bounded = λ q size a is gap. omega (arith, ap (λ xs. get_or xs (a / 64) 0) sets.bounds, knows.bounded q size a (sym (same q) ∙ is) gap);
      most = λ q size a is gap. omega (arith, ap (λ xs. get_or xs q 0) sets.most, knows.most q size a (sym (same q) ∙ is) gap);
      first = λ n q size a has least gap. elim (cases_eq n class) [
        | inl e ↦
            omega (
              arith,
              here n e,
              first_gap shape es old class page worth q size a may knows (own n q e has) (omega (arith, ap least_of e)) gap,
            )
        | inr other ↦ omega (arith, sets.there n other, knows.first n q size a has least gap)
      ];
      unknown = λ n q has is. elim (cases_eq n class) [
        | inl e ↦ omega (arith, here n e, first_unknown shape es old class page worth q may knows (own n q e has) (sym (same q) ∙ is))
        | inr other ↦ omega (arith, sets.there n other, knows.unknown n q has (sym (same q) ∙ is))
      ];
    }
