-- Lists of extents: which words they have, and one that comes or goes.
use Rattle.std.proofs.Common.{◌≡◌, ℕ, ◌+◌, Bool, true, false, not, List, [], ◌∷◌, ◌++◌, length, refl, sym, ap, ◌∙◌, subst, inl, inr, arith, cond, eqb}
use Rattle.std.specs.List.{Contains, All, filter, list_any, sum_by}
use Rattle.std.proofs.lemmas.Bool.{and_parts, and_from, leb-true, ltb-true, le-leb, lt-ltb, or_cases, or_left, or_right, cases_eq, cases_Bool, eq-eqb, ne_eqb, true≢false}
use Rattle.std.proofs.lemmas.List.Elements.{All-head, All-tail, All-contains, All-filter, All-weaker, All-push, All-nil}
use Rattle.std.proofs.lemmas.List.Sums.{sum_by-cons}
use Rattle.gc_graph.specs.Placement.{Extent, HasWord, IsTaken}
use Rattle.page_space.specs.Pages.{covers}
use Rattle.page_space.specs.Space.{ExtentPlacesDiffer}
use Rattle.gc_graph.specs.Members.{Contains-cons, Contains-head, Contains-cons_cases, was_in, has_passed, stays_in}

pub covers_from : (e : Extent) (x : ℕ) → HasWord e x → covers x e ≡ true
covers_from e x c = and_from _ _ (le-leb e.place x c.0) (lt-ltb x (e.place + e.size) c.1)

pub covers_parts : (e : Extent) (x : ℕ) → covers x e ≡ true → HasWord e x
covers_parts e x h =
    let both = and_parts _ _ h in
    (leb-true e.place x both.0, ltb-true x (e.place + e.size) both.1)

pub any_from_taken : (es : List Extent) (e : Extent) (x : ℕ) → Contains es e → HasWord e x → list_any (covers x) es ≡ true
any_from_taken [] e x there c = absurd (omega (arith, there.1))
any_from_taken (d ∷ es) e x there c =
    elim (Contains-cons_cases d es e there) [
      | inl same ↦ or_left (covers x d) (list_any (covers x) es) (ap (covers x) same ∙ covers_from e x c)
      | inr later ↦ or_right (covers x d) (list_any (covers x) es) (any_from_taken es e x later c)
    ]

pub taken_from_any : (es : List Extent) (x : ℕ) → list_any (covers x) es ≡ true → IsTaken es x
taken_from_any [] x h = absurd (true≢false (sym h))
taken_from_any (d ∷ es) x h =
    elim (or_cases (covers x d) (list_any (covers x) es) h) [
      | inl here ↦ (d, Contains-head d es, covers_parts d x here)
      | inr later ↦ (let rest : IsTaken es x = taken_from_any es x later in (rest.0, Contains-cons d es rest.0 rest.1, rest.2))
    ]

pub any_none : (es : List Extent) (x : ℕ) → (IsTaken es x → ⊥) → list_any (covers x) es ≡ false
any_none es x never =
    elim (cases_Bool (list_any (covers x) es)) [ inl is ↦ absurd (never (taken_from_any es x is)) | inr none ↦ none ]

-- the same words are taken, where each list has what the other has
pub any_same : (xs ys : List Extent) (x : ℕ) → (IsTaken xs x → IsTaken ys x) → (IsTaken ys x → IsTaken xs x)
    → list_any (covers x) xs ≡ list_any (covers x) ys
any_same xs ys x to from =
    elim (cases_Bool (list_any (covers x) xs)) [
      | inl is ↦ (let y : IsTaken ys x = to (taken_from_any xs x is) in is ∙ sym (any_from_taken ys y.0 x y.1 y.2))
      | inr none ↦ none ∙ sym (any_none ys x (λ y. let z : IsTaken xs x = from y in true≢false (sym (any_from_taken xs z.0 x z.1 z.2) ∙ none)))
    ]

abbrev pub others : ℕ → Extent → Bool
others a d = not (eqb d.place a)

-- ---- what a filter leaves

pub contains_filter : (es : List Extent) (a : ℕ) (d : Extent) → (d.place ≡ a → ⊥) → Contains es d → Contains (filter (others a) es) d
contains_filter es a d other h = stays_in (others a) es d h (ap not (ne_eqb d.place a other))

pub from_filter : (es : List Extent) (a : ℕ) (d : Extent) → Contains (filter (others a) es) d → Contains es d × (d.place ≡ a → ⊥)
from_filter es a d h = (was_in (others a) es d h, (λ same. true≢false (sym (has_passed (others a) es d h) ∙ ap not (eq-eqb d.place a same))))

pub differ_filter : (t : Extent → Bool) (es : List Extent) → ExtentPlacesDiffer es → ExtentPlacesDiffer (filter t es)
differ_filter t [] differ = tt
differ_filter t (e ∷ es) differ =
    elim (cases_Bool (t e)) [
      | inl stays ↦ subst ExtentPlacesDiffer (sym (ap (λ x. cond x (e ∷ filter t es) (filter t es)) stays))
          (All-filter t (λ (d : Extent). d.place ≡ e.place → ⊥) es differ.0, differ_filter t es differ.1)
      | inr goes ↦ subst ExtentPlacesDiffer (sym (ap (λ x. cond x (e ∷ filter t es) (filter t es)) goes)) (differ_filter t es differ.1)
    ]

pub differ_push : (es : List Extent) (e : Extent) → ExtentPlacesDiffer es → ((d : Extent) → Contains es d → d.place ≡ e.place → ⊥) → ExtentPlacesDiffer (es ++ e ∷ [])
differ_push [] e differ other = (All-nil (λ (d : Extent). d.place ≡ e.place → ⊥), tt)
differ_push (d ∷ es) e differ other = (
  All-push (λ (f : Extent). f.place ≡ d.place → ⊥) es e differ.0 (λ same. other d (Contains-head d es) (sym same)),
  differ_push es e differ.1 (λ f there. other f (Contains-cons d es f there)),
)

none_less : (es : List Extent) (a : ℕ) → All (λ (d : Extent). d.place ≡ a → ⊥) es → filter (others a) es ≡ es
none_less [] a none = refl
none_less (d ∷ es) a none =
    ap (λ b. cond (not b) (d ∷ filter (others a) es) (filter (others a) es)) (ne_eqb d.place a (All-head (λ (e : Extent). e.place ≡ a → ⊥) d es none))
    ∙ ap (λ ds. d ∷ ds) (none_less es a (All-tail (λ (e : Extent). e.place ≡ a → ⊥) d es none))

-- what a sum loses with the extent at a place
pub one_less : (f : Extent → ℕ) (es : List Extent) (e : Extent) (a : ℕ) → ExtentPlacesDiffer es → Contains es e → e.place ≡ a
    → sum_by f (filter (others a) es) + f e ≡ sum_by f es
one_less f [] e a differ there at = absurd (omega (arith, there.1))
one_less f (d ∷ es) e a differ there at =
    let whole : sum_by f (d ∷ es) ≡ f d + sum_by f es = sum_by-cons f d es in
    elim (cases_eq d.place a) [
      | inl here ↦
          (let gone : filter (others a) (d ∷ es) ≡ es =
          ap (λ t. cond (not t) (d ∷ filter (others a) es) (filter (others a) es)) (eq-eqb d.place a here)
          ∙ none_less es a (All-weaker (λ (c : Extent). c.place ≡ d.place → ⊥) (λ (c : Extent). c.place ≡ a → ⊥) (λ c far same. far (same ∙ sym here)) es differ.0) in
          let is : d ≡ e = elim (Contains-cons_cases d es e there) [
            | inl same ↦ same
            | inr later ↦ absurd (All-contains (λ (c : Extent). c.place ≡ d.place → ⊥) es e differ.0 later (at ∙ sym here))
          ] in
          omega (arith, ap (sum_by f) gone, whole, ap f is))
      | inr elsewhere ↦
          (let kept : filter (others a) (d ∷ es) ≡ d ∷ filter (others a) es =
          ap (λ t. cond (not t) (d ∷ filter (others a) es) (filter (others a) es)) (ne_eqb d.place a elsewhere) in
          let later : Contains es e = elim (Contains-cons_cases d es e there) [
            | inl same ↦ absurd (elsewhere (ap (λ (c : Extent). c.place) same ∙ at))
            | inr rest ↦ rest
          ] in
          let rest : sum_by f (filter (others a) es) + f e ≡ sum_by f es = one_less f es e a differ.1 later at in
          let first : sum_by f (d ∷ filter (others a) es) ≡ f d + sum_by f (filter (others a) es) = sum_by-cons f d (filter (others a) es) in
          omega (arith, ap (sum_by f) kept, first, rest, whole))
    ]

ones : (es : List Extent) → sum_by (λ (e : Extent). 1) es ≡ length es
ones [] = refl
ones (e ∷ es) = omega (arith, sum_by-cons (λ (d : Extent). 1) e es, ones es)

pub length_less : (es : List Extent) (e : Extent) (a : ℕ) → ExtentPlacesDiffer es → Contains es e → e.place ≡ a → length (filter (others a) es) + 1 ≡ length es
length_less es e a differ there at = omega (arith, one_less (λ (d : Extent). 1) es e a differ there at, ones es, ones (filter (others a) es))
