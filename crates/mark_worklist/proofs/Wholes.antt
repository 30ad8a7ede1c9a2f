-- All shares of a family, in one list: before they are joined, and what is known afterwards.
use Rattle.std.proofs.Common.{◌≡◌, ◌≤◌, ℕ, ◌+◌, ◌<◌, true, false, List, [], ◌∷◌, ◌++◌, length, map, set, get_or, sym, ap, ap₂, ◌∙◌, subst, inl, inr, IsPermutation, arith, ◌==◌}
use Rattle.std.specs.List.{All, remove}
use Rattle.std.proofs.lemmas.List.{length-map, length-append, take_all, get_or_default, get_or_append_left, set-get_or}
use Rattle.std.proofs.lemmas.List.Edits.{length-insert, length-remove}
use Rattle.std.proofs.lemmas.List.Elements.{All-append, All-set}
use Rattle.std.proofs.lemmas.List.Sorted.{All-permutation}
use Rattle.std.proofs.lemmas.Bool.{cases_lt}
use Rattle.mark_worklist.specs.Hands.{all_parts, WasEmpty}
use Rattle.mark_worklist.specs.Ends.{ListName}
use Rattle.mark_worklist.specs.Shares.{ShareState, times_listed, IsEven}
use Rattle.mark_worklist.specs.Families.{at, names_of, nobody, IsFresh, IsShareOf}
use Rattle.mark_worklist.specs.Joining.{put_by, taken_by, AreAllShares, AreEven, AreFresh, EndsAreJoined, AreOpen, HaveSameItems, IsTakenOrLeft, LoseNothing, IsAllCounted}
use Rattle.mark_worklist.proofs.Items.{all-counted, each-even}

-- what is so of the first share, which is alone, is so of its list
all-first : (P : ShareState → Type 0) (list : List ShareState) → length list ≡ 1 → P (at list 0) → All P list
all-first P list alone holds k d l =
    let first : k ≡ 0 = omega (arith, l, alone) in
    subst P (ap (λ j. get_or list j nobody) (sym first) ∙ get_or_default list k nobody d l) holds

-- the shares of a family have brought what they moved
pub all-even : (list shares : List ShareState) → AreAllShares list shares → AreEven (list ++ shares)
all-even list shares all = each-even (list ++ shares) (All-append IsEven list shares (all-first IsEven list all.alone all.own_even) all.even)

module _ (list shares new : List ShareState) (all : AreAllShares list shares) (same : IsPermutation (list ++ shares) new)
    (numbered : (k : ℕ) → k < length new → (at new k).number ≡ k) (long : length new ≡ length shares + 1) where
  abbrev names : List ListName
  names = names_of (at list 0)

  count : length names ≡ length new
  count = omega (arith, long, all.as_many, length-insert (map (λ e. e.list) (at list 0).others) (at list 0).number (at list 0).own.list (omega (arith, all.first)), length-map (at list 0).others (λ e. e.list))

  are-shares : All (IsShareOf names) new
  are-shares = All-permutation (IsShareOf names) (list ++ shares) new same (All-append (IsShareOf names) list shares (all-first (IsShareOf names) list all.alone all.own) all.each)

  pub all-open : (names : List ListName) × (length names ≤ all_parts) × AreOpen names (length names) new
  all-open = (
    names,
    all.own.few,
    record {
      as_many = sym count;
      each = λ k l.
          let s = at new k in
          let l' : k < length new = omega (arith, l, count) in
          let of-s = are-shares k nobody l' in
          let is = numbered k l' in
          record {
            number = is;
            own = ap (λ j. get_or names j s.own.list) (sym is) ∙ of-s.own;
            others = of-s.others ∙ ap₂ (λ ns j. remove ns j) (sym (take_all (length names) names (omega arith))) is;
            whole = λ m. absurd (omega (arith, l, m));
            none = λ m. (let n = ap length of-s.others in omega (arith, of-s.parts, n, length-map s.others (λ e. e.list), length-remove names s.number of-s.within));
          };
    },
  )

  pub few-shares : length new ≤ all_parts
  few-shares = omega (arith, count, all.own.few)

module _ (old new : List ShareState) (same : LoseNothing old new) where
  pub as-many-put : length (put_by new) ≡ length (put_by old)
  as-many-put = omega (arith, same.put (λ i. true), all-counted (put_by new), all-counted (put_by old))

  pub all-taken : (left : List ℕ) → IsAllCounted new left → IsTakenOrLeft old left
  all-taken left counted = record {
    even = λ item. omega (arith, counted (λ i. i == item), same.put (λ i. i == item), same.taken (λ i. i == item));
    as_many = omega (arith, counted (λ i. true), same.put (λ i. true), same.taken (λ i. true), all-counted (put_by old), all-counted (taken_by old), all-counted left);
  }

  -- the first share tells what was refused, and has put and taken the same
  pub settled : (refused : ℕ) (s : ShareState) → 0 < length new → s ≡ record (at new 0) { refused = refused; pop_found_none = false; steal_found_none = false }
      → HaveSameItems old (set new 0 s)
  settled refused s some is = record {
    put = λ item. first-put new refused s some is item ∙ same.put (λ i. i == item);
    taken = λ item. first-taken new refused s some is item ∙ same.taken (λ i. i == item);
  }
    where
      first-put : (shares : List ShareState) (refused : ℕ) (s : ShareState) → 0 < length shares → s ≡ record (at shares 0) { refused = refused; pop_found_none = false; steal_found_none = false }
          → (item : ℕ) → times_listed item (put_by (set shares 0 s)) ≡ times_listed item (put_by shares)
      first-put [] refused s some is item = absurd (omega (arith, some))
      first-put (x ∷ xs) refused s some is item = ap (λ t. times_listed item (put_by (t ∷ xs))) is

      first-taken : (shares : List ShareState) (refused : ℕ) (s : ShareState) → 0 < length shares → s ≡ record (at shares 0) { refused = refused; pop_found_none = false; steal_found_none = false }
          → (item : ℕ) → times_listed item (taken_by (set shares 0 s)) ≡ times_listed item (taken_by shares)
      first-taken [] refused s some is item = absurd (omega (arith, some))
      first-taken (x ∷ xs) refused s some is item = ap (λ t. times_listed item (taken_by (t ∷ xs))) is

pub still-joined : (shares : List ShareState) (refused : ℕ) (s : ShareState) → 0 < length shares
    → s ≡ record (at shares 0) { refused = refused; pop_found_none = false; steal_found_none = false } → EndsAreJoined shares → EndsAreJoined (set shares 0 s)
still-joined shares refused s some is h = record {
  whole = All-set (λ t. t.own.hand.parts ≡ all_parts) shares 0 s (ap (λ t. t.own.hand.parts) is ∙ h.whole 0 nobody some) h.whole;
  apart = All-set (λ t. t.others ≡ []) shares 0 s (ap (λ t. t.others) is ∙ h.apart 0 nobody some) h.apart;
}

-- the first share tells what was refused, and what is left is the same
pub still-taken : (shares : List ShareState) (refused : ℕ) (s : ShareState) → 0 < length shares
    → s ≡ record (at shares 0) { refused = refused; pop_found_none = false; steal_found_none = false } → (left : List ℕ) → IsTakenOrLeft shares left → IsTakenOrLeft (set shares 0 s) left
still-taken [] refused s some is left taken = absurd (omega (arith, some))
still-taken (x ∷ xs) refused s some is left taken = record {
  even = λ item. ap (λ t. times_listed item (taken_by (t ∷ xs)) + times_listed item left) is ∙ taken.even item ∙ sym (ap (λ t. times_listed item (put_by (t ∷ xs))) is);
  as_many = ap (λ t. length (taken_by (t ∷ xs)) + length left) is ∙ taken.as_many ∙ sym (ap (λ t. length (put_by (t ∷ xs))) is);
}

-- it is so too that they are even
pub settled-even : (shares : List ShareState) (refused : ℕ) (s : ShareState) → 0 < length shares
    → s ≡ record (at shares 0) { refused = refused; pop_found_none = false; steal_found_none = false } → AreEven shares → AreEven (set shares 0 s)
settled-even [] refused s some is even = absurd (omega (arith, some))
settled-even (x ∷ xs) refused s some is even = subst (λ (t : ShareState). AreEven (t ∷ xs)) (sym is) even

-- the first share and the others are all
pub first-and-rest : (shares : List ShareState) (x : ShareState) → 0 < length shares → x ≡ get_or shares 0 x → (x ∷ []) ++ remove shares 0 ≡ shares
first-and-rest [] x some is = absurd (omega (arith, some))
first-and-rest (y ∷ ys) x some is = ap (λ z. z ∷ ys) is

-- nothing was found at one of them, and it is as before
pub stays : (old now : List ShareState) (i : ℕ) (x e : ShareState) → now ≡ old → x ≡ get_or now i x → e ≡ x → set now i e ≡ old
stays old now i x e same x-is e-is = ap (set now i) (e-is ∙ x-is) ∙ set-get_or now i x ∙ same

pub one-more_empty : (shares : List ShareState) (i : ℕ) (x : ShareState) → x ≡ get_or shares i x → i < length shares → WasEmpty x.own.hand
    → ((k : ℕ) (d : ShareState) → k < i → WasEmpty (get_or shares k d).own.hand) → (k : ℕ) (d : ShareState) → k < i + 1 → WasEmpty (get_or shares k d).own.hand
one-more_empty shares i x is within empty before k d l = elim (cases_lt k i) [
  | inl early ↦ before k d early
  | inr late ↦ (let here : k ≡ i = omega (arith, l, late) in
      subst (λ (s : ShareState). WasEmpty s.own.hand) (is ∙ get_or_default shares i x d within ∙ ap (λ j. get_or shares j d) (sym here)) empty)
]

pub first-noted : (old now : List ShareState) (x n : ShareState) → now ≡ old → 0 < length now → x ≡ get_or now 0 x → n ≡ record x { pop_found_none = true }
    → set now 0 n ≡ set old 0 (record (at old 0) { pop_found_none = true })
first-noted old now x n same some x-is n-is =
    let here : x ≡ at old 0 = x-is ∙ get_or_default now 0 x nobody some ∙ ap (λ l. at l 0) same in
    ap₂ (λ l s. set l 0 s) same (n-is ∙ ap (λ (s : ShareState). record s { pop_found_none = true }) here)

-- the shares that were linked are a list of the owner's and its shares
pub fresh-all : (count : ℕ) (all list rest : List ShareState) → list ++ rest ≡ all → length list ≡ 1 → length all ≡ count + 1 → length (at all 0).others + 1 ≡ count + 1
    → ((k : ℕ) → k < count + 1 → ((at all k).number ≡ k) × IsShareOf (names_of (at all 0)) (at all k) × IsFresh (at all k)) → AreFresh count list rest
fresh-all count all list rest whole alone long ends each =
    let first : at all 0 ≡ at list 0 = ap (λ l. at l 0) (sym whole) ∙ get_or_append_left list rest nobody 0 (omega (arith, alone)) in
    let n = ap length whole in
    record {
      alone = alone;
      as_many = omega (arith, n, length-append list rest, alone, long);
      ends = (let e = ap (λ s. length s.others) first in omega (arith, e, ends));
      numbered = λ k l. ap (λ a. (at a k).number) whole ∙ (each k (omega (arith, l))).0;
      family = subst (All (IsShareOf (names_of (at list 0)))) (sym whole)
          (λ k d l. subst (λ s. IsShareOf (names_of s) (get_or all k d)) first (subst (IsShareOf (names_of (at all 0))) (get_or_default all k nobody d l) (each k (omega (arith, l, long))).1));
      fresh = subst (All IsFresh) (sym whole) (λ k d l. subst IsFresh (get_or_default all k nobody d l) (each k (omega (arith, l, long))).2);
    }
