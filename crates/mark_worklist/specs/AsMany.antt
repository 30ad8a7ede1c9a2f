-- A push leaves as many shares as there were.
use Rattle.std.proofs.Common.{◌≡◌, ℕ, length, set, ap, ◌∙◌, inl, inr, cond}
use Rattle.std.proofs.lemmas.Bool.{cases_Bool}
use Rattle.std.proofs.lemmas.List.{length-set}
use Rattle.mark_worklist.specs.Families.{at}
use Rattle.mark_worklist.specs.Shares.{ShareState, share_pushed, refused_once}
use Rattle.mark_worklist.specs.Lists.{ListState, IsPutOnList, list_refused_once, with_own}

pub own_as_many : (change : ShareState → ShareState) (l : ListState) → length (with_own change l) ≡ length l.shares
own_as_many change l =
    let other = set l.shares 0 (change (at l.shares 0)) in
    elim (cases_Bool l.whole) [
      | inl whole ↦ ap {B = ℕ} (λ b. length (cond b l.shares other)) whole
      | inr out ↦ ap {B = ℕ} (λ b. length (cond b l.shares other)) out ∙ length-set l.shares 0 (change (at l.shares 0))
    ]

-- a push leaves a list as many shares as it had
pub pushed_as_many : (old new : ListState) (a : ℕ) → IsPutOnList old a new → length new.shares ≡ length old.shares
pushed_as_many old new a is = ap length is.shares ∙ own_as_many (λ s. share_pushed s a) old

-- a refused push leaves a list as many shares as it had
pub refused_as_many : (l : ListState) → length (list_refused_once l).shares ≡ length l.shares
refused_as_many l = own_as_many refused_once l
