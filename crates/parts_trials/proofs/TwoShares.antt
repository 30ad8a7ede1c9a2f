-- Two shares are all shares, in whatever order they come back.
use Rattle.std.proofs.Common.{◌≡◌, ℕ, zero, suc, ◌<◌, List, [], ◌∷◌, length, get_or, refl, subst, arith}
use Rattle.std.specs.List.{remove}
use Rattle.std.proofs.lemmas.List.Sorted.{IsPermutation-append_comm}
use Rattle.mark_worklist.specs.Shares.{ShareState, IsSameShare}
use Rattle.mark_worklist.specs.Families.{at}
use Rattle.mark_worklist.specs.Joining.{AreAllShares, AreFresh, IsSameList}
use Rattle.mark_worklist.specs.Kept.{all-shares, any-order}

pub two-shares : (list shares list' : List ShareState) (one two one' two' : ShareState) → AreFresh 2 list shares → two ≡ get_or shares 1 two
    → one ≡ get_or (remove shares 1) 0 one → IsSameList list list' → IsSameShare one one' → IsSameShare two two' → AreAllShares list' (two' ∷ one' ∷ [])
two-shares list [] list' one two one' two' fresh is-two is-one same first second = absurd (omega (arith, fresh.as_many))
two-shares list (x ∷ []) list' one two one' two' fresh is-two is-one same first second = absurd (omega (arith, fresh.as_many))
two-shares list (x ∷ y ∷ z ∷ zs) list' one two one' two' fresh is-two is-one same first second = absurd (omega (arith, fresh.as_many))
two-shares list (x ∷ y ∷ []) list' one two one' two' fresh is-two is-one same first second =
    any-order list' (one' ∷ two' ∷ []) (two' ∷ one' ∷ []) (IsPermutation-append_comm (one' ∷ []) (two' ∷ [])) (all-shares 2 list (x ∷ y ∷ []) list' (one' ∷ two' ∷ []) fresh same refl each)
  where
    each : (k : ℕ) → k < 2 → IsSameShare (at (x ∷ y ∷ []) k) (at (one' ∷ two' ∷ []) k)
    each zero l = subst (λ s. IsSameShare s one') is-one first
    each (suc zero) l = subst (λ s. IsSameShare s two') is-two second
    each (suc (suc k)) l = absurd (omega (arith, l))

-- none is left of two
pub none-left : (shares : List ShareState) → length shares ≡ 2 → remove (remove shares 1) 0 ≡ []
none-left [] long = absurd (omega (arith, long))
none-left (x ∷ []) long = absurd (omega (arith, long))
none-left (x ∷ y ∷ []) long = refl
none-left (x ∷ y ∷ z ∷ zs) long = absurd (omega (arith, long))
