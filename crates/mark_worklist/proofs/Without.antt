-- Lists of which items were taken.
use Rattle.std.proofs.Common.{rules, ◌≡◌, ℕ, ◌+◌, ◌<◌, ◌==◌, Bool, false, List, [], ◌∷◌, length, refl, sym, ap, subst, inl, inr, arith, cond}
use Rattle.std.specs.List.{Contains, count_by}
use Rattle.std.proofs.lemmas.Bool.{cases_Bool, eqb-true}
use Rattle.std.proofs.lemmas.List.Sums.{sum_by-append, sum_by-cons}
use Rattle.gc_graph.specs.Members.{Contains-cons, Contains-cons_cases, Contains-head}
use Rattle.mark_worklist.specs.Joining.{put_by, taken_by, IsTakenOrLeft}
use Rattle.mark_worklist.specs.Shares.{ShareState, times_listed}
use Rattle.mark_worklist.specs.Lists.{IsOneMore}
use Rattle.mark_worklist.specs.OneMore.{one_longer}
use Rattle.mark_worklist.specs.Left.{left_on, without_first, without_all}

-- ---- one is taken

more-before : (x a : ℕ) (xs : List ℕ) → IsOneMore (without_first a xs) a xs → IsOneMore (x ∷ without_first a xs) a (x ∷ xs)
more-before x a xs one = record { before = x ∷ one.before; after = one.after; others = ap (λ l. x ∷ l) one.others; all = ap (λ l. x ∷ l) one.all }

pub one_without : (a : ℕ) (items : List ℕ) → Contains items a → IsOneMore (without_first a items) a items
one_without a [] there = absurd (omega (arith, there.1))
one_without a (x ∷ xs) there = elim (cases_Bool (x == a)) [
  | inl this ↦ subst (λ l. IsOneMore l a (x ∷ xs)) (sym (ap (λ b. cond b xs (x ∷ without_first a xs)) this))
      (record { before = []; after = xs; others = refl; all = ap (λ y. y ∷ xs) (eqb-true x a this) })
  | inr other ↦ subst (λ l. IsOneMore l a (x ∷ xs)) (sym (ap (λ b. cond b xs (x ∷ without_first a xs)) other)) (more-before x a xs (one_without a xs (later other)))
] where
  later : (x == a) ≡ false → Contains xs a
  later other = elim (Contains-cons_cases x xs a there) [ inl this ↦ absurd (search rules) | inr rest ↦ rest ]

-- ---- several are taken

module _ (short long : List ℕ) (a : ℕ) (one : IsOneMore short a long) where
  counted : (asked : ℕ → Bool) → count_by asked long ≡ count_by asked short + count_by asked (a ∷ [])
  counted asked =
      let f : ℕ → ℕ = λ x. cond (asked x) 1 0 in
      omega (
        arith,
        ap (count_by asked) one.all,
        ap (count_by asked) one.others,
        sum_by-append f one.before (a ∷ one.after),
        sum_by-append f (a ∷ []) one.after,
        sum_by-append f one.before one.after,
      )

some-there : (a : ℕ) (items : List ℕ) → 0 < times_listed a items → Contains items a
some-there a [] some = absurd (omega (arith, some))
some-there a (x ∷ xs) some = elim (cases_Bool (x == a)) [
  | inl this ↦ subst (λ y. Contains (y ∷ xs) a) (sym (eqb-true x a this)) (Contains-head a xs)
  | inr other ↦ Contains-cons x xs a (some-there a xs (omega (arith, some, sum_by-cons (λ y. cond (y == a) 1 0) x xs, ap {B = ℕ} (λ t. cond t 1 0) other)))
]

-- of each item, what was taken and what is left are what was put
abbrev AreEven : List ℕ → List ℕ → List ℕ → Type 0
AreEven taken left put = (item : ℕ) → times_listed item taken + times_listed item left ≡ times_listed item put

first-there : (a : ℕ) (taken left put : List ℕ) → AreEven (a ∷ taken) left put → Contains put a
first-there a taken left put even =
    some-there a put (omega (arith, even a, sum_by-append (λ y. cond (y == a) 1 0) (a ∷ []) taken, one-of a)) where
      one-of : (a : ℕ) → times_listed a (a ∷ []) ≡ 1
      one-of a = search rules

rest-even : (a : ℕ) (taken left put : List ℕ) → AreEven (a ∷ taken) left put → AreEven taken left (without_first a put)
rest-even a taken left put even item =
    let one = one_without a put (first-there a taken left put even) in
    omega (arith, even item, sum_by-append (λ y. cond (y == item) 1 0) (a ∷ []) taken, counted (without_first a put) put a one (λ y. y == item))

all-left : (taken left put : List ℕ) → AreEven taken left put → (item : ℕ) → times_listed item (without_all taken put) ≡ times_listed item left
all-left [] left put even item = omega (arith, even item)
all-left (a ∷ taken) left put even item = all-left taken left (without_first a put) (rest-even a taken left put even) item

as-many-left : (taken left put : List ℕ) → AreEven taken left put → length taken + length (without_all taken put) ≡ length put
as-many-left [] left put even = omega arith
as-many-left (a ∷ taken) left put even =
    let longer = one_longer (without_first a put) put a (one_without a put (first-there a taken left put even)) in
    omega (arith, as-many-left taken left (without_first a put) (rest-even a taken left put even), longer)

module _ (shares new : List ShareState) (left : List ℕ) (all : IsTakenOrLeft shares left) (now : IsTakenOrLeft new left) where
  pub as_many_on : length (left_on new) ≡ length left
  as_many_on = omega (arith, as-many-left (taken_by new) left (put_by new) now.even, now.as_many)

  -- what is left may be told from the joined lists
  pub taken_on : IsTakenOrLeft shares (left_on new)
  taken_on = record {
    even = λ item. omega (arith, all.even item, all-left (taken_by new) left (put_by new) now.even item);
    as_many = omega (arith, all.as_many, as_many_on);
  }
