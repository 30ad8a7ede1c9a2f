-- The two kinds of ends of a list, as contracts see them.
use Rattle.std.specs.Prelude.{◌≡◌, ℕ, ◌≤◌, ◌<◌, ◌⊎◌, List, [], ◌++◌, length}
use Rattle.std.specs.Global.{Global}
use Rattle.crossbeam_deque.specs.Handles.{Pass, view}
use Rattle.mark_worklist.specs.declared.rule.Hand.{Hand}
use Rattle.mark_worklist.specs.Hands.{one_part_from, with_brought, WasEmpty}

-- which list it is: a name that no other list has
abbrev pub ListName : Type 0
ListName = ℕ × ℕ

-- the end at which a list's owner puts and takes
pub record OwnState : Type 0 where
  pub list : ListName
  pub hand : Hand

-- the owner's end after it gave one of its parts to another end
abbrev pub one_part_less : OwnState → OwnState
one_part_less e = record e { hand = one_part_from e.hand }

-- an end at which another one steals: what it took, what it moved to its own list, and how many items it knows to have left the
-- list
pub record OtherState : Type 0 where
  pub list : ListName
  pub taken : List ℕ
  pub moved : List ℕ
  pub seen : ℕ

-- what an end with one part has of the list that took these and moved those
abbrev pub other_hand : List ℕ → List ℕ → Hand
other_hand taken moved = record { parts = 1; put = []; taken = taken; brought = []; moved = moved }

-- what such an end has of the list
abbrev pub hand_of : OtherState → Hand
hand_of e = other_hand e.taken e.moved

-- what a pass over the list has put and taken
abbrev pub hand_in : Pass ℕ Hand Global → Hand
hand_in pass = view pass

-- nothing was taken: the list was empty at one step, or lost items since it was last looked at
pub record FoundNone (old new : OtherState) : Type 0 where
  pub list : new.list ≡ old.list
  pub taken : new.taken ≡ old.taken
  pub moved : new.moved ≡ old.moved
  pub why : (old.seen < new.seen) ⊎ WasEmpty (hand_of old)

-- items, so many at most, were moved from the list to an owner's own
pub record Moved (most : ℕ) (old : OtherState) (own : OwnState) (new : OtherState) (own_after : OwnState) : Type 0 where
  pub items : List ℕ
  pub few : length items ≤ most
  pub list : new.list ≡ old.list
  pub taken : new.taken ≡ old.taken
  pub moved : new.moved ≡ old.moved ++ items
  pub brought : own_after ≡ record own { hand = with_brought own.hand items }
