-- A marking list and what a push and a pop make of it.
use Rattle.std.specs.Prelude.{◌≡◌, ℕ, ◌+◌, ◌-◌, ◌^◌, Bool, true, false, List, [], ◌∷◌, ◌++◌, min, slice_set, if◌then◌else◌, ◌&&◌}
use Rattle.mark_worklist.specs.Families.{at}
use Rattle.mark_worklist.specs.Joining.{AreFresh}
use Rattle.mark_worklist.specs.Shares.{ShareState, put_of, share_pushed, refused_once, last_count}

-- the addresses, of whose order nothing is said, and while shares are out those that the owner put; how many pushes were
-- refused; whether nothing was found since an item was last put or given; the owner's share and those that it took in; and
-- whether no share is out
pub record ListState : Type 0 where
  pub items : List ℕ
  pub refused : ℕ
  pub idle : Bool
  pub shares : List ShareState
  pub whole : Bool

-- while shares are out the list is as the owner's share tells
abbrev pub as_own : List ShareState → ListState
as_own shares = record {
  items = put_of (at shares 0);
  refused = (at shares 0).refused;
  idle = (at shares 0).pop_found_none && (at shares 0).steal_found_none;
  shares = shares;
  whole = false;
}

-- a list without shares, to which nothing happened yet
abbrev pub no_items : ListState
no_items = record { items = []; refused = 0; idle = false; shares = []; whole = true }

-- a list and its shares, all of them out, of which no call was made
pub record IsShared (count : ℕ) (list : ListState) (shares : List ShareState) : Type 0 where
  pub whole : list.whole ≡ false
  pub own : list ≡ as_own list.shares
  pub items : list.items ≡ []
  pub refused : list.refused ≡ 0
  pub idle : list.idle ≡ false
  pub fresh : AreFresh count list.shares shares

-- the longer list has the address once more than the shorter one, and each other as often
pub record IsOneMore (short : List ℕ) (a : ℕ) (long : List ℕ) : Type 0 where
  pub before : List ℕ
  pub after : List ℕ
  pub others : short ≡ before ++ after
  pub all : long ≡ before ++ a ∷ after

-- while shares are out, the change is one of the owner's share
abbrev pub with_own : (ShareState → ShareState) → ListState → List ShareState
with_own change l = if l.whole then l.shares else slice_set l.shares 0 (change (at l.shares 0))

-- the address was put on the list, and nothing was refused
pub record IsPutOnList (old : ListState) (a : ℕ) (new : ListState) : Type 0 where
  pub items : IsOneMore old.items a new.items
  pub awake : new.idle ≡ false
  pub refused : new.refused ≡ old.refused
  pub whole : new.whole ≡ old.whole
  pub shares : new.shares ≡ with_own (λ s. share_pushed s a) old

-- the count after one more; at its last value it stays
abbrev pub one_counted : ℕ → ℕ
one_counted count = min (count + 1) last_count

-- one more push was refused, and nothing else changed
abbrev pub list_refused_once : ListState → ListState
list_refused_once l = record l { refused = one_counted l.refused; shares = with_own refused_once l }
