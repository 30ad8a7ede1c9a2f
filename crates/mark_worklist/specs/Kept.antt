-- Lemmas that the crates above cite too: shares stay those of their family through every call.
use Rattle.std.proofs.Common.{◌≡◌, ℕ, suc, ◌+◌, ◌-◌, ◌<◌, List, [], ◌∷◌, ◌++◌, length, map, get_or, refl, sym, ap, ap₂, ◌∙◌, subst, IsPermutation, arith}
use Rattle.std.specs.List.{All, count_by, flat_map, insert, remove}
use Rattle.std.proofs.lemmas.List.{length-map, length-append, get_or-append_right, get_or_append_left, get_or_default}
use Rattle.std.proofs.lemmas.List.Sorted.{All-permutation, Contains-permutation, length_permutation}
use Rattle.mark_worklist.specs.Ends.{OtherState}
use Rattle.mark_worklist.specs.Shares.{ShareState, IsEven, IsSameShare}
use Rattle.mark_worklist.specs.Families.{at, names_of, nobody, IsFresh, IsShareOf}
use Rattle.mark_worklist.specs.Joining.{AreAllShares, AreFresh, IsSameList}

-- where nothing is done, a share has the same lists, and is even if it was
pub same-share : (s : ShareState) → IsSameShare s s
same-share s = record { number = refl; own = refl; parts = refl; even = λ even. even; others = refl }

-- where each of two changes leaves a share its lists, and even if it was, both together do
pub share-then : (a b c : ShareState) → IsSameShare a b → IsSameShare b c → IsSameShare a c
share-then a b c h k = record {
  number = k.number ∙ h.number;
  own = k.own ∙ h.own;
  parts = k.parts ∙ h.parts;
  even = λ even. k.even (h.even even);
  others = k.others ∙ h.others;
}

none-moved : (ends : List OtherState) → All (λ e. e.moved ≡ []) ends → flat_map (λ (e : OtherState). e.moved) ends ≡ []
none-moved [] none = refl
none-moved (e ∷ ends) none = ap₂ (λ xs ys. xs ++ ys) (none 0 e (omega arith)) (none-moved ends (λ k d l. none (suc k) d (omega (arith, l))))

-- a share of which no call was made has moved nothing
pub fresh-even : (s : ShareState) → IsFresh s → IsEven s
fresh-even s h asked = ap (count_by asked) (h.brought ∙ sym (ap₂ (λ xs ys. xs ++ ys) h.moved (none-moved s.others h.moved_there)))

-- where nothing is done, the owner's share has the same lists, and as many shares were taken in
pub same-list : (l : List ShareState) → IsSameList l l
same-list l = record { as_many = refl; first = same-share (at l 0) }

-- where each of two changes leaves the owner's share its lists, and as many shares taken in, both together do
pub list-then : (a b c : List ShareState) → IsSameList a b → IsSameList b c → IsSameList a c
list-then a b c h k = record { as_many = k.as_many ∙ h.as_many; first = share-then (at a 0) (at b 0) (at c 0) h.first k.first }

module _ (old new : ShareState) (same : IsSameShare old new) where
  as-many : length new.others ≡ length old.others
  as-many = sym (length-map new.others (λ e. e.list)) ∙ ap length same.others ∙ length-map old.others (λ e. e.list)

  pub same-names : names_of new ≡ names_of old
  same-names = ap₂ (λ l n. insert l n new.own.list) same.others same.number ∙ ap (λ x. insert (map (λ e. e.list) old.others) old.number x) same.own

  pub still-share : (names : List (ℕ × ℕ)) → IsShareOf names old → IsShareOf names new
  still-share names h = record {
    few = h.few;
    within = omega (arith, h.within, same.number);
    own = ap₂ (λ n x. get_or names n x) same.number same.own ∙ h.own ∙ sym same.own;
    others = same.others ∙ h.others ∙ ap (remove names) (sym same.number);
    parts = omega (arith, h.parts, same.parts, as-many);
  }

-- the shares that `new` gave are still all shares of their list, whatever calls were made
pub all-shares : (count : ℕ) (list shares list' shares' : List ShareState) → AreFresh count list shares → IsSameList list list' → length shares' ≡ length shares
    → ((k : ℕ) → k < length shares → IsSameShare (at shares k) (at shares' k)) → AreAllShares list' shares'
all-shares count list shares list' shares' h same long each =
    let first = same.first in
    let names = same-names (at list 0) (at list' 0) first in
    let own : (k : ℕ) → k < count → at (list ++ shares) (k + 1) ≡ at shares k = λ k l. get_or-append_right list shares 1 (k + 1) nobody h.alone (omega arith) ∙ ap (at shares) (omega arith) in
    let start : at (list ++ shares) 0 ≡ at list 0 = get_or_append_left list shares nobody 0 (omega (arith, h.alone)) in
    let all = length-append list shares in
    let ends = as-many (at list 0) (at list' 0) first in
    record {
      alone = same.as_many ∙ h.alone;
      first = first.number ∙ ap (λ s. s.number) (sym start) ∙ h.numbered 0 (omega arith);
      own = subst (λ n. IsShareOf n (at list' 0)) (sym names)
          (still-share (at list 0) (at list' 0) first (names_of (at list 0)) (subst (IsShareOf (names_of (at list 0))) start (h.family 0 nobody (omega (arith, all, h.alone)))));
      each = subst (λ n. All (IsShareOf n) shares') (sym names) (λ k d l.
          let l' : k < length shares = omega (arith, l, long) in
          let there : k + 1 < length (list ++ shares) = omega (arith, all, h.alone, l') in
          let was = subst (IsShareOf (names_of (at list 0))) (own k (omega (arith, l', h.as_many))) (h.family (k + 1) nobody there) in
          subst (IsShareOf (names_of (at list 0))) (get_or_default shares' k nobody d l) (still-share (at shares k) (at shares' k) (each k l') (names_of (at list 0)) was));
      own_even = first.even (fresh-even (at list 0) (subst IsFresh start (h.fresh 0 nobody (omega (arith, all, h.alone)))));
      even = λ k d l.
          let l' : k < length shares = omega (arith, l, long) in
          let was = fresh-even (at shares k) (subst IsFresh (own k (omega (arith, l', h.as_many))) (h.fresh (k + 1) nobody (omega (arith, all, h.alone, l')))) in
          subst IsEven (get_or_default shares' k nobody d l) ((each k l').even was);
      as_many = omega (arith, long, h.as_many, h.ends, ends);
      numbered = λ n some l.
          let k : ℕ = n - 1 in
          let l' : k < length shares = omega (arith, some, l, long) in
          let is : k + 1 ≡ n = omega (arith, some) in
          let number = (each k l').number ∙ ap (λ s. s.number) (sym (own k (omega (arith, l', h.as_many)))) ∙ h.numbered (k + 1) (omega (arith, l', h.as_many)) in
          (at shares' k, (k, omega (arith, l', long), get_or_default shares' k (at shares' k) nobody (omega (arith, l', long))), number ∙ is);
    }

-- in whatever order the shares come, they are all
pub any-order : (list shares shares' : List ShareState) → IsPermutation shares shares' → AreAllShares list shares → AreAllShares list shares'
any-order list shares shares' same h =
    let long = length_permutation shares shares' same in
    record {
      alone = h.alone;
      first = h.first;
      own = h.own;
      each = All-permutation (IsShareOf (names_of (at list 0))) shares shares' same h.each;
      own_even = h.own_even;
      even = All-permutation IsEven shares shares' same h.even;
      as_many = omega (arith, long, h.as_many);
      numbered = λ n some l.
          let s = h.numbered n some (omega (arith, l, long)) in
          (s.0, Contains-permutation shares shares' s.0 same s.1, s.2);
    }
