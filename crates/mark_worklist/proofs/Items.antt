-- How many items shares have put and taken, where ends go back to the owners of their lists.
use Rattle.std.proofs.Common.{◌≡◌, ◌≢◌, ◌≤◌, ℕ, suc, ◌+◌, ◌<◌, Bool, true, List, [], ◌∷◌, ◌++◌, length, map, set, get_or, IsPermutation, refl, sym, ap, ap₂, ◌∙◌, arith}
use Rattle.std.specs.List.{All, count_by, flat_map, sum_by}
use Rattle.std.proofs.lemmas.List.{length-append, length-map, length-set, get_or-set_other}
use Rattle.std.proofs.lemmas.List.Folds.{flat_map-map}
use Rattle.std.proofs.lemmas.List.Sums.{sum_by-cons, sum_by-append, sum_by-set}
use Rattle.std.proofs.lemmas.Grind.{flat_map-append}
use Rattle.std.proofs.lemmas.List.Sorted.{sum_by-IsPermutation}
use Rattle.std.proofs.lemmas.List.{append-nil}
use Rattle.mark_worklist.specs.Hands.{laid, drawn, IsLeft}
use Rattle.mark_worklist.specs.declared.rule.Hand.{Hand}
use Rattle.mark_worklist.specs.Ends.{OtherState}
use Rattle.mark_worklist.specs.Shares.{ShareState, put_of, taken_by_share, moved_of, IsEven}
use Rattle.mark_worklist.specs.Families.{at, nobody, with_joined, GaveBack}
use Rattle.mark_worklist.specs.Joining.{put_by, taken_by, brought_by, moved_by, LoseNothing, OwnLeft, IsAllCounted, AreEven, EndsAreJoined}

pub all-counted : (xs : List ℕ) → count_by (λ i. true) xs ≡ length xs
all-counted [] = refl
all-counted (x ∷ xs) = omega (arith, sum_by-cons (λ i. 1) x xs, all-counted xs)

-- no more is left than came onto the list
pub left-few : (h : Hand) (items : List ℕ) → IsLeft h items → length items ≤ length h.put + length h.brought
left-few h items left = omega (arith, left (λ i. true), all-counted items, all-counted (laid h), length-append h.put h.brought)

pub count-append : (asked : ℕ → Bool) (xs ys : List ℕ) → count_by asked (xs ++ ys) ≡ count_by asked xs + count_by asked ys
count-append asked xs ys = sum_by-append _ xs ys

-- the items of several are counted one after the other
pub count-of_all : {X : Type 0} (asked : ℕ → Bool) (f : X → List ℕ) (xs : List X) → count_by asked (flat_map f xs) ≡ sum_by (λ x. count_by asked (f x)) xs
count-of_all asked f [] = refl
count-of_all asked f (x ∷ xs) = omega (arith, count-append asked (f x) (flat_map f xs), sum_by-cons (λ y. count_by asked (f y)) x xs, count-of_all asked f xs)

pub same-items : (shares : List ShareState) → LoseNothing shares shares
same-items shares = record { brought = λ asked. refl; moved = λ asked. refl; put = λ asked. refl; taken = λ asked. refl; refused = refl }

pub items-then : (a b c : List ShareState) → LoseNothing a b → LoseNothing b c → LoseNothing a c
items-then a b c h k = record {
  brought = λ asked. k.brought asked ∙ h.brought asked;
  moved = λ asked. k.moved asked ∙ h.moved asked;
  put = λ asked. k.put asked ∙ h.put asked;
  taken = λ asked. k.taken asked ∙ h.taken asked;
  refused = k.refused ∙ h.refused;
}

-- a sum over shares, two of which change
sum-two : (f : ShareState → ℕ) (old : List ShareState) (i j : ℕ) (x y : ShareState) → i ≢ j → i < length old → j < length old
    → sum_by f (set (set old i x) j y) + f (at old i) + f (at old j) ≡ sum_by f old + f x + f y
sum-two f old i j x y apart in-i in-j =
    let first = sum_by-set f old i x nobody in-i in
    let second = sum_by-set f (set old i x) j y nobody (omega (arith, in-j, length-set old i x)) in
    let same = ap f (get_or-set_other old i j x nobody (λ e. apart (sym e))) in
    omega (arith, first, second, same)

-- what one more end gives to the items of a share, and takes from those of another
module _ (old new : List ShareState) (giver owner : ℕ) (apart : giver ≢ owner) (in-g : giver < length old) (in-o : owner < length old) (gave : GaveBack old giver owner new) where
  abbrev g : ShareState
  g = at old giver

  abbrev o : ShareState
  o = at old owner

  abbrev g' : ShareState
  g' = record g { others = gave.rest }

  abbrev o' : ShareState
  o' = with_joined o gave.end

  total : (f : ShareState → ℕ) → sum_by f new + f g + f o ≡ sum_by f old + f g' + f o'
  total f = ap (λ l. sum_by f l + f g + f o) gave.all ∙ sum-two f old giver owner g' o' apart in-g in-o

  -- items that stand at a share's own end and at its ends of other lists: where the end goes back, so do they
  go-back : (own : Hand → List ℕ) (of : OtherState → List ℕ) → own o'.own.hand ≡ own o.own.hand ++ of gave.end → (asked : ℕ → Bool)
      → count_by asked (flat_map (λ (s : ShareState). own s.own.hand ++ flat_map of s.others) new) ≡ count_by asked (flat_map (λ (s : ShareState). own s.own.hand ++ flat_map of s.others) old)
  go-back own of joined asked =
      let all : ShareState → List ℕ = λ s. own s.own.hand ++ flat_map of s.others in
      let last = ap (λ l. count_by asked (flat_map of l)) gave.last ∙ ap (count_by asked) (flat_map-append of gave.rest (gave.end ∷ [])) in
      let one = ap (count_by asked) (append-nil (of gave.end)) in
      omega (
        arith,
        total (λ s. count_by asked (all s)),
        last,
        one,
        ap (count_by asked) joined,
        count-of_all asked all new,
        count-of_all asked all old,
        count-append asked (flat_map of gave.rest) (of gave.end ++ []),
        count-append asked (own g.own.hand) (flat_map of g.others),
        count-append asked (own g.own.hand) (flat_map of gave.rest),
        count-append asked (own o.own.hand) (flat_map of o.others),
        count-append asked (own o'.own.hand) (flat_map of o.others),
        count-append asked (own o.own.hand) (of gave.end),
      )

  -- items that stand at a share's own end alone
  stay-there : (own : Hand → List ℕ) → own o'.own.hand ≡ own o.own.hand ++ [] → (asked : ℕ → Bool)
      → count_by asked (flat_map (λ (s : ShareState). own s.own.hand) new) ≡ count_by asked (flat_map (λ (s : ShareState). own s.own.hand) old)
  stay-there own joined asked =
      let all : ShareState → List ℕ = λ s. own s.own.hand in
      let same = ap (count_by asked) (joined ∙ append-nil (own o.own.hand)) in
      omega (arith, total (λ s. count_by asked (all s)), same, count-of_all asked all new, count-of_all asked all old)

  pub back-items : LoseNothing old new
  back-items = record {
    put = stay-there (λ h. h.put) refl;
    brought = stay-there (λ h. h.brought) refl;
    taken = go-back (λ h. h.taken) (λ e. e.taken) refl;
    moved = go-back (λ h. h.moved) (λ e. e.moved) refl;
    refused = (let r = total (λ s. s.refused) in omega (arith, r));
  }

-- in another order they have the same
pub order-items : (old new : List ShareState) → IsPermutation old new → LoseNothing old new
order-items old new same = record {
  brought = λ asked. count-of_all asked (λ s. s.own.hand.brought) new ∙ sum_by-IsPermutation (λ s. count_by asked s.own.hand.brought) old new same ∙ sym (count-of_all asked (λ s. s.own.hand.brought) old);
  moved = λ asked. count-of_all asked moved_of new ∙ sum_by-IsPermutation (λ s. count_by asked (moved_of s)) old new same ∙ sym (count-of_all asked moved_of old);
  put = λ asked. count-of_all asked put_of new ∙ sum_by-IsPermutation (λ s. count_by asked (put_of s)) old new same ∙ sym (count-of_all asked put_of old);
  taken = λ asked. count-of_all asked taken_by_share new ∙ sum_by-IsPermutation (λ s. count_by asked (taken_by_share s)) old new same ∙ sym (count-of_all asked taken_by_share old);
  refused = sum_by-IsPermutation (λ s. s.refused) old new same;
}

sum-same : {X : Type 0} (f g : X → ℕ) (xs : List X) → ((k : ℕ) (d : X) → k < length xs → f (get_or xs k d) ≡ g (get_or xs k d)) → sum_by f xs ≡ sum_by g xs
sum-same f g [] each = refl
sum-same f g (x ∷ xs) each = omega (arith, sum_by-cons f x xs, sum_by-cons g x xs, each 0 x (omega arith), sum-same f g xs (λ k d l. each (suc k) d (omega (arith, l))))

sum-both : {X : Type 0} (f g : X → ℕ) (xs : List X) → sum_by (λ x. f x + g x) xs ≡ sum_by f xs + sum_by g xs
sum-both f g [] = refl
sum-both f g (x ∷ xs) = omega (arith, sum_by-cons (λ y. f y + g y) x xs, sum_by-cons f x xs, sum_by-cons g x xs, sum-both f g xs)

-- what came onto the lists was put there, or brought
pub laid-are : (shares : List ShareState) (asked : ℕ → Bool) → sum_by (λ s. count_by asked (laid s.own.hand)) shares ≡ count_by asked (put_by shares) + count_by asked (brought_by shares)
laid-are shares asked =
    let put : ShareState → ℕ = λ s. count_by asked (put_of s) in
    let brought : ShareState → ℕ = λ s. count_by asked s.own.hand.brought in
    let both = sum-same (λ s. count_by asked (laid s.own.hand)) (λ s. put s + brought s) shares (λ k d l. count-append asked (get_or shares k d).own.hand.put (get_or shares k d).own.hand.brought) in
    omega (arith, both, sum-both put brought shares, count-of_all asked put_of shares, count-of_all asked (λ (s : ShareState). s.own.hand.brought) shares)

-- what left the lists of shares without ends of other lists was taken, or moved
pub drawn-are : (shares : List ShareState) (asked : ℕ → Bool) → EndsAreJoined shares
    → sum_by (λ s. count_by asked (drawn s.own.hand)) shares ≡ count_by asked (taken_by shares) + count_by asked (moved_by shares)
drawn-are shares asked joined =
    let taken : ShareState → ℕ = λ s. count_by asked (taken_by_share s) in
    let moved : ShareState → ℕ = λ s. count_by asked (moved_of s) in
    let both = sum-same (λ s. count_by asked (drawn s.own.hand)) (λ s. taken s + moved s) shares (λ k d l.
    let s = get_or shares k d in
    let own-taken = ap (λ os. count_by asked (s.own.hand.taken ++ flat_map (λ e. e.taken) os)) (joined.apart k d l) ∙ ap (count_by asked) (append-nil s.own.hand.taken) in
    let own-moved = ap (λ os. count_by asked (s.own.hand.moved ++ flat_map (λ e. e.moved) os)) (joined.apart k d l) ∙ ap (count_by asked) (append-nil s.own.hand.moved) in
    omega (arith, own-taken, own-moved, count-append asked s.own.hand.taken s.own.hand.moved)) in
    omega (arith, both, sum-both taken moved shares, count-of_all asked taken_by_share shares, count-of_all asked moved_of shares)

-- so what was put was taken, or is left
pub all-own : (shares : List ShareState) (left : List ℕ) → EndsAreJoined shares → AreEven shares → OwnLeft shares left → IsAllCounted shares left
all-own shares left joined even own asked = omega (arith, even asked, own asked, laid-are shares asked, drawn-are shares asked joined)

-- ---- what was moved was brought

pub each-even : (shares : List ShareState) → All IsEven shares → AreEven shares
each-even [] each asked = refl
each-even (x ∷ xs) each asked =
    let rest = each-even xs (λ k d l. each (suc k) d (omega (arith, l))) asked in
    omega (arith, each 0 x (omega arith) asked, rest, count-append asked x.own.hand.brought (brought_by xs), count-append asked (moved_of x) (moved_by xs))

pub still-even : (old new : List ShareState) → LoseNothing old new → AreEven old → AreEven new
still-even old new same even asked = same.brought asked ∙ even asked ∙ sym (same.moved asked)

abbrev lists-moved : ShareState → List (List ℕ)
lists-moved s = map (λ (e : OtherState). e.moved) s.others

in-lists : (s : ShareState) → flat_map (λ (e : OtherState). e.moved) s.others ≡ flat_map (λ (xs : List ℕ). xs) (lists-moved s)
in-lists s = sym (flat_map-map (λ (xs : List ℕ). xs) (λ (e : OtherState). e.moved) s.others)

-- nothing was moved, so it is as even as before
pub even-as : (old new : ShareState) → new.own.hand.brought ≡ old.own.hand.brought → new.own.hand.moved ≡ old.own.hand.moved → lists-moved new ≡ lists-moved old → IsEven old → IsEven new
even-as old new brought moved lists even asked =
    ap (count_by asked) brought ∙ even asked ∙ sym (ap (count_by asked) (ap₂ (λ xs ys. xs ++ ys) moved (in-lists new ∙ ap (flat_map (λ (xs : List ℕ). xs)) lists ∙ sym (in-lists old))))

-- what was moved from one list was brought
pub even-moved : (old new : ShareState) (place : ℕ) (items : List ℕ) → place < length old.others → new.own.hand.moved ≡ old.own.hand.moved
    → new.own.hand.brought ≡ old.own.hand.brought ++ items → lists-moved new ≡ set (lists-moved old) place (get_or (lists-moved old) place [] ++ items) → IsEven old → IsEven new
even-moved old new place items within moved brought lists even asked =
    let was : List ℕ = get_or (lists-moved old) place [] in
    let low : place < length (lists-moved old) = omega (arith, within, length-map old.others (λ (e : OtherState). e.moved)) in
    let one = sum_by-set (count_by asked) (lists-moved old) place (was ++ items) [] low in
    omega (
      arith,
      even asked,
      one,
      ap (count_by asked) brought,
      ap (count_by asked) moved,
      ap (sum_by (count_by asked)) lists,
      ap (count_by asked) (in-lists old),
      ap (count_by asked) (in-lists new),
      count-of_all asked (λ (xs : List ℕ). xs) (lists-moved old),
      count-of_all asked (λ (xs : List ℕ). xs) (lists-moved new),
      count-append asked was items,
      count-append asked old.own.hand.brought items,
      count-append asked old.own.hand.moved (flat_map (λ (e : OtherState). e.moved) old.others),
      count-append asked new.own.hand.moved (flat_map (λ (e : OtherState). e.moved) new.others),
    )
