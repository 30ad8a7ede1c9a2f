-- One share is all shares of its list, and what it and the owner put is what the owner put.
use Rattle.std.proofs.Common.{◌≡◌, ℕ, zero, suc, ◌+◌, ◌<◌, List, [], ◌∷◌, ◌++◌, length, get_or, refl, ap, subst, sym, ◌∙◌, arith}
use Rattle.std.specs.List.{remove, flat_map}
use Rattle.std.proofs.lemmas.List.{length-append}
use Rattle.mark_worklist.specs.Shares.{ShareState, IsSameShare, put_of}
use Rattle.mark_worklist.specs.Families.{at, IsFresh}
use Rattle.mark_worklist.specs.Joining.{AreAllShares, AreFresh, IsSameList, put_by}
use Rattle.mark_worklist.specs.Kept.{all-shares}

pub one-share : (list shares list' : List ShareState) (one one' : ShareState) → AreFresh 1 list shares → one ≡ get_or shares 0 one
    → IsSameList list list' → IsSameShare one one' → AreAllShares list' (one' ∷ [])
one-share list [] list' one one' fresh is same shared = absurd (omega (arith, fresh.as_many))
one-share list (x ∷ y ∷ ys) list' one one' fresh is same shared = absurd (omega (arith, fresh.as_many))
one-share list (x ∷ []) list' one one' fresh is same shared = all-shares 1 list (x ∷ []) list' (one' ∷ []) fresh same refl each
  where
    each : (k : ℕ) → k < 1 → IsSameShare (at (x ∷ []) k) (at (one' ∷ []) k)
    each zero l = subst (λ s. IsSameShare s one') is shared
    each (suc k) l = absurd (omega (arith, l))

-- none is left of one
pub none-left : (shares : List ShareState) → length shares ≡ 1 → remove shares 0 ≡ []
none-left [] long = absurd (omega (arith, long))
none-left (x ∷ []) long = refl
none-left (x ∷ y ∷ ys) long = absurd (omega (arith, long))

-- both had put nothing
pub nothing-put : (list shares : List ShareState) (one : ShareState) → AreFresh 1 list shares → one ≡ get_or shares 0 one
    → (put_of (at list 0) ≡ []) × (put_of one ≡ [])
nothing-put [] shares one fresh is = absurd (omega (arith, fresh.alone))
nothing-put (o ∷ p ∷ ps) shares one fresh is = absurd (omega (arith, fresh.alone))
nothing-put (o ∷ []) [] one fresh is = absurd (omega (arith, fresh.as_many))
nothing-put (o ∷ []) (x ∷ y ∷ ys) one fresh is = absurd (omega (arith, fresh.as_many))
nothing-put (o ∷ []) (x ∷ []) one fresh is =
    ((fresh.fresh 0 o (omega arith)).put, ap put_of is ∙ (fresh.fresh 1 o (omega arith)).put)

pub all-put : (list' : List ShareState) (one' : ShareState) → length list' ≡ 1 → put_of one' ≡ []
    → length (put_by (list' ++ one' ∷ [])) ≡ length (put_of (at list' 0))
all-put [] one' long none = absurd (omega (arith, long))
all-put (o ∷ p ∷ ps) one' long none = absurd (omega (arith, long))
all-put (o ∷ []) one' long none =
    length-append (put_of o) (put_of one' ++ []) ∙ ap (λ (l : List ℕ). length (put_of o) + length (l ++ [])) none ∙ omega arith
