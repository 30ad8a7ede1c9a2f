-- Shares, and what their calls make of them.
use Rattle.std.specs.Prelude.{◌≡◌, ℕ, ◌+◌, ◌-◌, ◌^◌, ◌<◌, ◌==◌, Bool, true, false, List, [], ◌∷◌, ◌++◌, length, map, min, slice_index_or, slice_set}
use Rattle.std.specs.List.{count_by, flat_map}
use Rattle.mark_worklist.specs.Hands.{with_put, with_taken, with_brought}
use Rattle.mark_worklist.specs.Ends.{OwnState, OtherState, FoundNone}

-- a share: its number, the end of its own list, and its ends of the lists of all others, in the order of their numbers; how many
-- pushes were refused; and whether a pop, and a steal, found nothing since it last put or gave an item
pub record ShareState : Type 0 where
  pub number : ℕ
  pub own : OwnState
  pub others : List OtherState
  pub refused : ℕ
  pub pop_found_none : Bool
  pub steal_found_none : Bool

-- what it put
abbrev pub put_of : ShareState → List ℕ
put_of s = s.own.hand.put

-- what it took, of its own list and of others
abbrev pub taken_by_share : ShareState → List ℕ
taken_by_share s = s.own.hand.taken ++ flat_map (λ e. e.taken) s.others

-- what it moved to its own list, from any
abbrev pub moved_of : ShareState → List ℕ
moved_of s = s.own.hand.moved ++ flat_map (λ e. e.moved) s.others

-- whatever items are asked for, it brought as many to its own list as it moved there from others
abbrev pub IsEven : ShareState → Type 0
IsEven s = (asked : ℕ → Bool) → count_by asked s.own.hand.brought ≡ count_by asked (moved_of s)

-- how often an item stands in a list
abbrev pub times_listed : ℕ → List ℕ → ℕ
times_listed item items = count_by (λ i. i == item) items

-- the last value of a count of what was refused
abbrev pub last_count : ℕ
last_count = 2 ^ 64 - 1

-- the count after so many more; at its last value it stays
abbrev pub more_counted : ℕ → ℕ → ℕ
more_counted count more = min (count + more) last_count

-- the item was put on its own list
abbrev pub share_pushed : ShareState → ℕ → ShareState
share_pushed s a = record s { own = record s.own { hand = with_put s.own.hand (a ∷ []) }; pop_found_none = false; steal_found_none = false }

-- one more push was refused, and nothing else changed
abbrev pub refused_once : ShareState → ShareState
refused_once s = record s { refused = more_counted s.refused 1 }

-- the item was taken from its own list
abbrev pub popped : ShareState → ℕ → ShareState
popped s a = record s { own = record s.own { hand = with_taken s.own.hand (a ∷ []) }; pop_found_none = false; steal_found_none = false }

-- items of the list at this place were moved to its own list
pub record MovedFrom (old : ShareState) (place : ℕ) (new : ShareState) : Type 0 where
  pub items : List ℕ
  pub lists : map (λ e. e.list) new.others ≡ map (λ e. e.list) old.others
  pub taken : map (λ e. e.taken) new.others ≡ map (λ e. e.taken) old.others
  pub moved : map (λ e. e.moved) new.others
      ≡ slice_set (map (λ e. e.moved) old.others) place (slice_index_or (map (λ e. e.moved) old.others) place [] ++ items)
  pub rest : new ≡ record old { own = record old.own { hand = with_brought old.own.hand items }; others = new.others }

-- the item was taken from another one's list, and some that were there were moved to its own
pub record Stole (old : ShareState) (a : ℕ) (new : ShareState) : Type 0 where
  pub place : ℕ
  pub items : List ℕ
  pub within : place < length old.others
  pub lists : map (λ e. e.list) new.others ≡ map (λ e. e.list) old.others
  pub taken : map (λ e. e.taken) new.others
      ≡ slice_set (map (λ e. e.taken) old.others) place (slice_index_or (map (λ e. e.taken) old.others) place [] ++ a ∷ [])
  pub moved : map (λ e. e.moved) new.others
      ≡ slice_set (map (λ e. e.moved) old.others) place (slice_index_or (map (λ e. e.moved) old.others) place [] ++ items)
  pub rest : new ≡ record old {
    own = record old.own { hand = with_brought old.own.hand items };
    others = new.others;
    pop_found_none = false;
    steal_found_none = false;
  }

-- nothing was taken: each other list was empty at one step, or lost items since it was last looked at
pub record StoleNone (old new : ShareState) : Type 0 where
  pub as_many : length new.others ≡ length old.others
  pub each : (k : ℕ) (d : OtherState) → k < length old.others → FoundNone (slice_index_or old.others k d) (slice_index_or new.others k d)
  pub rest : new ≡ record old { others = new.others; steal_found_none = true }

-- it has the same lists as before, and is even if it was
pub record IsSameShare (old new : ShareState) : Type 0 where
  pub number : new.number ≡ old.number
  pub own : new.own.list ≡ old.own.list
  pub parts : new.own.hand.parts ≡ old.own.hand.parts
  pub even : IsEven old → IsEven new
  pub others : map (λ e. e.list) new.others ≡ map (λ e. e.list) old.others
