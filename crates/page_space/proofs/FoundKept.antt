-- What was found traced stays so, where the view is the same and where a header was looked at.
use Rattle.std.proofs.Common.{◌≡◌, ℕ, ◌++◌, [], ◌∷◌, Bool, List, cond, sym, subst}
use Rattle.std.specs.List.{Contains}
use Rattle.std.proofs.lemmas.Bool.{cond_both}
use Rattle.std.proofs.lemmas.List.Elements.{Contains-append_left}
use Rattle.gap_bounds.specs.Seat.{SeatView}
use Rattle.page_space.specs.Found.{KeepsFound}

pub found_same : {v w : SeatView} → w ≡ v → KeepsFound v w
found_same same a there = subst (λ (u : SeatView). Contains u.done a) (sym same) there

-- one more may have been found
pub one_more : (more : Bool) (found : List ℕ) (x a : ℕ) → Contains found a → Contains (cond more (found ++ x ∷ []) found) a
one_more more found x a there =
    cond_both more (found ++ x ∷ []) found (λ xs. Contains xs a) (λ _. Contains-append_left found (x ∷ []) a there) (λ _. there)
