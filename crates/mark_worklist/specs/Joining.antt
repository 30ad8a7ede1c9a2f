-- All shares of a family, and how far they are joined.
use Rattle.std.specs.Prelude.{◌≡◌, ℕ, ◌+◌, ◌<◌, ◌≤◌, false, Bool, List, [], ◌∷◌, ◌++◌, length, map, take, slice_index_or, slice_set, sum_by, All, Contains, Option, MatchOption, IsNone}
use Rattle.std.specs.List.{count_by, flat_map, remove}
use Rattle.mark_worklist.specs.Hands.{all_parts, with_taken, laid, drawn, HasLeft}
use Rattle.mark_worklist.specs.Ends.{ListName}
use Rattle.mark_worklist.specs.Shares.{ShareState, put_of, taken_by_share, moved_of, times_listed, IsEven, IsSameShare}
use Rattle.mark_worklist.specs.Families.{at, names_of, IsFresh, IsShareOf}

-- what shares put
abbrev pub put_by : List ShareState → List ℕ
put_by shares = flat_map put_of shares

-- what shares took
abbrev pub taken_by : List ShareState → List ℕ
taken_by shares = flat_map taken_by_share shares

-- what they brought to their own lists
abbrev pub brought_by : List ShareState → List ℕ
brought_by shares = flat_map (λ s. s.own.hand.brought) shares

-- what they moved to their own lists
abbrev pub moved_by : List ShareState → List ℕ
moved_by shares = flat_map moved_of shares

-- how many of their pushes were refused
abbrev pub refused_by : List ShareState → ℕ
refused_by shares = sum_by (λ s. s.refused) shares

-- these are all shares of the family whose first one is alone in the list, each once
pub record AreAllShares (list shares : List ShareState) : Type 0 where
  pub alone : length list ≡ 1
  pub first : (at list 0).number ≡ 0
  pub own : IsShareOf (names_of (at list 0)) (at list 0)
  pub each : All (IsShareOf (names_of (at list 0))) shares
  pub own_even : IsEven (at list 0)
  pub even : All IsEven shares
  pub as_many : length shares ≡ length (at list 0).others
  pub numbered : (n : ℕ) → 0 < n → n ≤ length shares → (s : ShareState) × Contains shares s × (s.number ≡ n)

-- all ends of their lists are joined: only they put and take there
pub record EndsAreJoined (shares : List ShareState) : Type 0 where
  pub whole : All (λ s. s.own.hand.parts ≡ all_parts) shares
  pub apart : All (λ s. s.others ≡ []) shares

-- whatever items are asked for, they brought as many to their own lists as they moved there from others
abbrev pub AreEven : List ShareState → Type 0
AreEven shares = (asked : ℕ → Bool) → count_by asked (brought_by shares) ≡ count_by asked (moved_by shares)

-- what came onto each one's list and did not leave it is there, and what was moved was brought
pub record KnowLeft (shares : List ShareState) : Type 0 where
  pub each : All (λ s. HasLeft s.own.hand) shares
  pub even : AreEven shares

-- they have put and taken the same items as before, each as often
pub record HaveSameItems (old new : List ShareState) : Type 0 where
  pub put : (item : ℕ) → times_listed item (put_by new) ≡ times_listed item (put_by old)
  pub taken : (item : ℕ) → times_listed item (taken_by new) ≡ times_listed item (taken_by old)

-- what was put was taken or is left: each item as often
pub record IsTakenOrLeft (shares : List ShareState) (left : List ℕ) : Type 0 where
  pub even : (item : ℕ) → times_listed item (taken_by shares) + times_listed item left ≡ times_listed item (put_by shares)
  pub as_many : length (taken_by shares) + length left ≡ length (put_by shares)

-- the share after its own list gave an item
abbrev pub with_own_taken : ShareState → ℕ → ShareState
with_own_taken s a = record s { own = record s.own { hand = with_taken s.own.hand (a ∷ []) } }

-- the first of them isn't idle
abbrev pub awake_first : List ShareState → List ShareState
awake_first shares = slice_set shares 0 (record (at shares 0) { pop_found_none = false; steal_found_none = false })

-- the item was taken from the list of one of them, and the first one isn't idle
pub record TookOne (old : List ShareState) (a : ℕ) (new : List ShareState) : Type 0 where
  pub place : ℕ
  pub within : place < length old
  pub all : new ≡ awake_first (slice_set old place (with_own_taken (at old place) a))

-- of the items left there was none; or this was one of them, and the others are left yet
abbrev pub IsLeftAfter : List ShareState → Option ℕ → List ℕ → Type 0
IsLeftAfter new result left =
    MatchOption result (left ≡ [])
    (λ a. Contains left a × ((before after : List ℕ) → left ≡ before ++ a ∷ after → IsTakenOrLeft new (before ++ after)))

-- joined lists, of which it is known what is left, were asked for an item
pub record IsPopped (old : List ShareState) (result : Option ℕ) (new : List ShareState) : Type 0 where
  pub joined : EndsAreJoined new
  pub known : KnowLeft new
  pub none : IsNone result → IsTakenOrLeft new []
  pub left : (left : List ℕ) → IsTakenOrLeft old left → IsLeftAfter new result left

-- a list of the owner's and so many shares, of which no call was made: they are numbered from 0, the owner's first, and each has
-- a list of its own and an end of each other one's
pub record AreFresh (count : ℕ) (list shares : List ShareState) : Type 0 where
  pub alone : length list ≡ 1
  pub as_many : length shares ≡ count
  pub ends : length (at list 0).others ≡ count
  pub numbered : (k : ℕ) → k ≤ count → (at (list ++ shares) k).number ≡ k
  pub family : All (IsShareOf (names_of (at list 0))) (list ++ shares)
  pub fresh : All IsFresh (list ++ shares)

-- the owner's share has the same lists as before, and as many shares were taken in
pub record IsSameList (old new : List ShareState) : Type 0 where
  pub as_many : length new ≡ length old
  pub first : IsSameShare (at old 0) (at new 0)

-- ---- what the crate's own code cites

-- whatever items are asked for, as many came onto the lists as left them at their owners' ends and are there
abbrev pub OwnLeft : List ShareState → List ℕ → Type 0
OwnLeft shares left =
    (asked : ℕ → Bool) → sum_by (λ s. count_by asked (laid s.own.hand)) shares ≡ sum_by (λ s. count_by asked (drawn s.own.hand)) shares + count_by asked left

-- of so many shares, the one at k: the lists behind d took their ends back from all, and list d from the shares before p
pub record IsPartJoined (names : List ListName) (d p k : ℕ) (s : ShareState) : Type 0 where
  pub number : s.number ≡ k
  pub own : slice_index_or names k s.own.list ≡ s.own.list
  pub gave : k < p → map (λ e. e.list) s.others ≡ remove (take d names) k
  pub has : p ≤ k → map (λ e. e.list) s.others ≡ remove (take (d + 1) names) k
  pub whole : d < k → s.own.hand.parts ≡ all_parts
  pub some : k ≡ d → p ≤ d → s.own.hand.parts + length names ≡ all_parts + 1 + p
  pub more : k ≡ d → d < p → s.own.hand.parts + length names ≡ all_parts + p
  pub none : k < d → s.own.hand.parts + length names ≡ all_parts + 1

-- of so many shares, the one at k: the lists from d on took their ends back from all
pub record IsOpen (names : List ListName) (d k : ℕ) (s : ShareState) : Type 0 where
  pub number : s.number ≡ k
  pub own : slice_index_or names k s.own.list ≡ s.own.list
  pub others : map (λ e. e.list) s.others ≡ remove (take d names) k
  pub whole : d ≤ k → s.own.hand.parts ≡ all_parts
  pub none : k < d → s.own.hand.parts + length names ≡ all_parts + 1

-- all of them are so far joined
pub record ArePartJoined (names : List ListName) (d p : ℕ) (shares : List ShareState) : Type 0 where
  pub as_many : length shares ≡ length names
  pub each : (k : ℕ) → k < length names → IsPartJoined names d p k (at shares k)

-- all of them are so far joined
pub record AreOpen (names : List ListName) (d : ℕ) (shares : List ShareState) : Type 0 where
  pub as_many : length shares ≡ length names
  pub each : (k : ℕ) → k < length names → IsOpen names d k (at shares k)

-- they have put and taken the same items as before, brought and moved the same, and as many of their pushes were refused
pub record LoseNothing (old new : List ShareState) : Type 0 where
  pub brought : (asked : ℕ → Bool) → count_by asked (brought_by new) ≡ count_by asked (brought_by old)
  pub moved : (asked : ℕ → Bool) → count_by asked (moved_by new) ≡ count_by asked (moved_by old)
  pub put : (asked : ℕ → Bool) → count_by asked (put_by new) ≡ count_by asked (put_by old)
  pub taken : (asked : ℕ → Bool) → count_by asked (taken_by new) ≡ count_by asked (taken_by old)
  pub refused : refused_by new ≡ refused_by old

-- whatever items are asked for, as many were put as were taken and are left
abbrev pub IsAllCounted : List ShareState → List ℕ → Type 0
IsAllCounted shares left = (asked : ℕ → Bool) → count_by asked (put_by shares) ≡ count_by asked (taken_by shares) + count_by asked left
