-- What is known of gaps where objects come or go.
use Rattle.std.proofs.Common.{◌≡◌, ℕ, ◌+◌, ◌-◌, ◌*◌, ◌/◌, ◌<◌, ◌≤◌, true, false, List, get_or, sym, ap, ◌∙◌, inl, inr, arith}
use Rattle.std.proofs.lemmas.Bool.{cases_lt, cases_Bool, false≢true}
use Rattle.gc_graph.specs.State.{Shape}
use Rattle.gc_graph.specs.Placement.{Extent}
use Rattle.gap_bounds.specs.Gaps.{GapTable, is_known, is_between, HasClass, KnowsGaps}
use Rattle.gap_bounds.specs.Changes.{GapsOpened, GapsOpenedIn, GapsTaken, HadClasses}

-- no address of a class is above this one, and none was raised
pub record Lowers (old new : GapTable) (worth : ℕ) : Type 0 where
  pub known : new.known ≡ old.known
  pub lower : (class : ℕ) → get_or new.first class 0 ≤ get_or old.first class 0
  pub start : (class : ℕ) → get_or new.first class 0 ≤ worth

-- no bound is less than it was, and those where a gap between the two addresses may begin are large enough for it
pub record Raises (old new : GapTable) (page from until : ℕ) : Type 0 where
  pub kept : (block : ℕ) → get_or old.bounds block 0 ≤ get_or new.bounds block 0
  pub raised : (block : ℕ) → from / 64 ≤ block → block < (until - 1) / 64 + 1 → until - from ≤ get_or new.bounds block 0
  pub most : (q : ℕ) → get_or old.most q 0 ≤ get_or new.most q 0
  pub here : until - from ≤ get_or new.most page 0

pub opened : (shape : Shape) (before after : List Extent) (old new : GapTable) (page from until : ℕ) → Raises old new page from until
    → Lowers old new from → GapsOpened shape before after page from until → HadClasses shape before after → KnowsGaps shape before old
    → KnowsGaps shape after new
opened shape before after old new page from until raises lowers opens had knows =
    let same = λ (q : ℕ). let e : is_known new q ≡ is_known old q = ap (λ xs. get_or xs q false) lowers.known in e in
    record {
      bounded = λ q size a is gap. elim (opens q size a gap) [
        | inl was ↦ omega (arith, raises.kept (a / 64), knows.bounded q size a (sym (same q) ∙ is) was)
        | inr within ↦ elim (cases_lt 0 size) [
          | inl some ↦
              (let low : from ≤ a = within.1 in
              let high : a + size ≤ until = within.2 in
              omega (arith, raises.raised (a / 64) (omega arith) (omega arith)))
          | inr none ↦ omega arith
        ]
      ];
      most = λ q size a is gap. elim (opens q size a gap) [
        | inl was ↦ omega (arith, raises.most q, knows.most q size a (sym (same q) ∙ is) was)
        | inr within ↦
            (let low : from ≤ a = within.1 in
            let high : a + size ≤ until = within.2 in
            omega (arith, raises.here, ap (λ p. get_or new.most p 0) within.0))
      ];
      first = λ class q size a has least gap. elim (opens q size a gap) [
        | inl was ↦ omega (arith, lowers.lower class, knows.first class q size a (had class q has) least was)
        | inr within ↦ (let low : from ≤ a = within.1 in omega (arith, lowers.start class))
      ];
      unknown = λ class q has is. omega (arith, lowers.lower class, knows.unknown class q (had class q has) (sym (same q) ∙ is));
    }

-- nothing is known any longer of some pages, and these are worth a look
pub record Forgets (w : ℕ) (old new : GapTable) (first end : ℕ) : Type 0 where
  pub bounds : new.bounds ≡ old.bounds
  pub most : new.most ≡ old.most
  pub here : (q : ℕ) → is_between first end q ≡ true → is_known new q ≡ false
  pub there : (q : ℕ) → is_between first end q ≡ false → is_known new q ≡ is_known old q
  pub lower : (class : ℕ) → get_or new.first class 0 ≤ get_or old.first class 0
  pub start : (q class : ℕ) → is_between first end q ≡ true → is_known old q ≡ true → get_or new.first class 0 ≤ q * w

pub forgotten : (shape : Shape) (before after : List Extent) (old new : GapTable) (first end : ℕ) → Forgets shape.page_words old new first end
    → GapsOpenedIn shape before after first end → HadClasses shape before after → KnowsGaps shape before old → KnowsGaps shape after new
forgotten shape before after old new first end forgets opens had knows =
    let w : ℕ = shape.page_words in
    let outside = λ (q : ℕ) (is : is_known new q ≡ true). let r : is_between first end q ≡ false = elim (cases_Bool (is_between first end q)) [
      | inl inside ↦ absurd (false≢true (sym (forgets.here q inside) ∙ is))
      | inr clear ↦ clear
    ] in r in
    let at_start = λ (class q : ℕ) (has : HasClass shape after class q) (inside : is_between first end q ≡ true).
    let r : get_or new.first class 0 ≤ q * w = elim (cases_Bool (is_known old q)) [
      | inl known ↦ forgets.start q class inside known
      | inr unknown ↦ omega (arith, forgets.lower class, knows.unknown class q (had class q has) unknown)
    ] in r in
    record {
      bounded = λ q size a is gap.
          omega (
            arith,
            ap (λ xs. get_or xs (a / 64) 0) forgets.bounds,
            knows.bounded q size a (sym (forgets.there q (outside q is)) ∙ is) (opens q size a (outside q is) gap),
          );
      most = λ q size a is gap.
          omega (
            arith,
            ap (λ xs. get_or xs q 0) forgets.most,
            knows.most q size a (sym (forgets.there q (outside q is)) ∙ is) (opens q size a (outside q is) gap),
          );
      first = λ class q size a has least gap. elim (cases_Bool (is_between first end q)) [
        | inl inside ↦ (let from : q * w ≤ a = gap.first in omega (arith, at_start class q has inside))
        | inr clear ↦ omega (arith, forgets.lower class, knows.first class q size a (had class q has) least (opens q size a clear gap))
      ];
      unknown = λ class q has is. elim (cases_Bool (is_between first end q)) [
        | inl inside ↦ at_start class q has inside
        | inr clear ↦ omega (arith, forgets.lower class, knows.unknown class q (had class q has) (sym (forgets.there q clear) ∙ is))
      ];
    }

pub taken : (shape : Shape) (before after : List Extent) (old new : GapTable) (start : ℕ) → new.bounds ≡ old.bounds → new.most ≡ old.most
    → Lowers old new start → GapsTaken shape before after start true → KnowsGaps shape before old → KnowsGaps shape after new
taken shape before after old new start bounds most lowers takes knows =
    let same = λ (q : ℕ). let e : is_known new q ≡ is_known old q = ap (λ xs. get_or xs q false) lowers.known in e in
    record {
      bounded = λ q size a is gap. omega (arith, ap (λ xs. get_or xs (a / 64) 0) bounds, knows.bounded q size a (sym (same q) ∙ is) (takes.gaps q size a gap));
      most = λ q size a is gap. omega (arith, ap (λ xs. get_or xs q 0) most, knows.most q size a (sym (same q) ∙ is) (takes.gaps q size a gap));
      first = λ class q size a has least gap. elim (takes.classes class q has) [
        | inl had ↦ omega (arith, lowers.lower class, knows.first class q size a had least (takes.gaps q size a gap))
        | inr low ↦ (let from : q * shape.page_words ≤ a = gap.first in omega (arith, low.1, lowers.start class))
      ];
      unknown = λ class q has is. elim (takes.classes class q has) [
        | inl had ↦ omega (arith, lowers.lower class, knows.unknown class q had (sym (same q) ∙ is))
        | inr low ↦ omega (arith, low.1, lowers.start class)
      ];
    }

-- where each page has the buckets that it had, what is known holds still
pub kept : (shape : Shape) (before after : List Extent) (gaps : GapTable) (start : ℕ) → GapsTaken shape before after start false
    → KnowsGaps shape before gaps → KnowsGaps shape after gaps
kept shape before after gaps start takes knows =
    let had = λ (class q : ℕ) (has : HasClass shape after class q). let r : HasClass shape before class q = elim (takes.classes class q has) [
      | inl had ↦ had
      | inr low ↦ absurd (false≢true low.0)
    ] in r in
    record {
      bounded = λ q size a is gap. knows.bounded q size a is (takes.gaps q size a gap);
      most = λ q size a is gap. knows.most q size a is (takes.gaps q size a gap);
      first = λ class q size a has least gap. knows.first class q size a (had class q has) least (takes.gaps q size a gap);
      unknown = λ class q has is. knows.unknown class q (had class q has) is;
    }
