-- For crates above: what is no older than one of the totals published stands behind it.
use Rattle.std.proofs.Common.{◌<◌, ◌≤◌, List, [], ◌∷◌, ◌++◌, zero, suc, ap, refl, arith}
use Rattle.std.specs.Prelude.{Contains}
use Rattle.std.proofs.lemmas.List.Elements.{All-contains, Contains-append_right}
use Rattle.heap_stats.specs.declared.totals.Totals.{Totals}
use Rattle.heap_stats.specs.Boards.{Rise}

-- where totals rise, what is among them and no older than one of them is that one or stands behind it
pub among_later : (before after : List Totals) (first t : Totals) → Rise (before ++ first ∷ after) → Contains (before ++ first ∷ after) t
    → first.ordinal ≤ t.ordinal → Contains (first ∷ after) t
among_later [] after first t rise within up = within
among_later (b ∷ before) after first t rise (zero, low, here) up =
    absurd (omega (arith, ap (λ (u : Totals). u.ordinal) here, up, All-contains (λ (u : Totals). b.ordinal < u.ordinal) (before ++ first ∷ after) first rise.0 (Contains-append_right before (first ∷ after) first (0, omega arith, refl))))
among_later (b ∷ before) after first t rise (suc k, low, later) up = among_later before after first t rise.1 (k, omega (arith, low), later) up
