-- Totals behind others: that they rise, or never fall, with one more.
use Rattle.std.proofs.Common.{◌<◌, ◌≤◌, List, [], ◌∷◌, ◌++◌, arith, le_refl}
use Rattle.std.specs.Prelude.{All}
use Rattle.std.proofs.lemmas.List.Elements.{All-nil, All-cons, All-contains, All-head, All-push, All-tail, Contains-push}
use Rattle.heap_stats.specs.declared.totals.Totals.{Totals}
use Rattle.heap_stats.specs.Boards.{Rise, NeverFall}

pub rise_push : (ts : List Totals) (new : Totals) → Rise ts → All (λ (t : Totals). t.ordinal < new.ordinal) ts → Rise (ts ++ new ∷ [])
rise_push [] new rise below = (All-nil (λ (u : Totals). new.ordinal < u.ordinal), tt)
rise_push (t ∷ ts) new rise below = (
  All-push (λ (u : Totals). t.ordinal < u.ordinal) ts new rise.0 (All-head (λ (u : Totals). u.ordinal < new.ordinal) t ts below),
  rise_push ts new rise.1 (All-tail (λ (u : Totals). u.ordinal < new.ordinal) t ts below),
)

pub never_fall_push : (ts : List Totals) (new : Totals) → NeverFall ts → All (λ (t : Totals). t.ordinal ≤ new.ordinal) ts → NeverFall (ts ++ new ∷ [])
never_fall_push [] new order below = (All-nil (λ (u : Totals). new.ordinal ≤ u.ordinal), tt)
never_fall_push (t ∷ ts) new order below = (
  All-push (λ (u : Totals). t.ordinal ≤ u.ordinal) ts new order.0 (All-head (λ (u : Totals). u.ordinal ≤ new.ordinal) t ts below),
  never_fall_push ts new order.1 (All-tail (λ (u : Totals). u.ordinal ≤ new.ordinal) t ts below),
)

-- the last one of totals that rise is the greatest
pub below_last : (before : List Totals) (last : Totals) → Rise (before ++ last ∷ []) → All (λ (t : Totals). t.ordinal ≤ last.ordinal) (before ++ last ∷ [])
below_last [] last rise = All-cons (λ (t : Totals). t.ordinal ≤ last.ordinal) last [] (le_refl last.ordinal) (All-nil (λ (t : Totals). t.ordinal ≤ last.ordinal))
below_last (t ∷ before) last rise =
    All-cons (λ (u : Totals). u.ordinal ≤ last.ordinal) t (before ++ last ∷ [])
    (omega (arith, All-contains (λ (u : Totals). t.ordinal < u.ordinal) (before ++ last ∷ []) last rise.0 (Contains-push before last)))
    (below_last before last rise.1)
