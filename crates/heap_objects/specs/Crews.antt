-- What a cycle with markers takes, how the list comes to be shared and seats are lent, what a step makes of marking, and what the
-- markers leave once they are joined.
use Rattle.std.specs.Prelude.{◌≡◌, ◌⊎◌, ℕ, ◌+◌, ◌-◌, ◌^◌, ◌<◌, ◌≤◌, true, false, List, [], length, Contains, vec_capacity, sum_by}
use Rattle.std.specs.List.{list_any}
use Rattle.mark_worklist.specs.Lists.{ListState, IsShared}
use Rattle.mark_worklist.specs.Refusals.{Refusals, TellsRefused, refusals_of}
use Rattle.mark_worklist.specs.declared.marking.Marking.{Marking}
use Rattle.page_words.specs.Seat.{SeatView}
use Rattle.mark_worklist.specs.Families.{at}
use Rattle.mark_worklist.specs.Joining.{IsSameList}
use Rattle.mark_worklist.specs.Shares.{put_of, taken_by_share}
use Rattle.marker_crew.specs.Marking.{traced_count}
use Rattle.marker_crew.specs.Notes.{NotesState}
use Rattle.atomic_pause.specs.UnderWay.{IsReadyToEnd, IsUnderWay}
use Rattle.heap_objects.specs.declared.crew.CrewLists.{CrewLists}
use Rattle.heap_objects.specs.declared.marking.Grey.{Grey}
use Rattle.heap_objects.specs.Marking.{GreyView, HasFound, pushes_in, notes_in}
use Rattle.heap_objects.specs.Marks.{CrewIsLent}

-- there are markers: a list with as many shares, of which no call was made, and room for as many seats
pub record AreListsFor (markers : ℕ) (lists : CrewLists) : Type 0 where
  pub some : 0 < markers
  pub shared : IsShared markers lists.list lists.shares.items
  pub no_seat : lists.seats.items ≡ []
  pub room : markers ≤ vec_capacity lists.seats

-- the shares stay while none is out; while some are the list has what it had and what the owner's share put, which is what that share had put and what is
-- asked for; that share took nothing, and counts the pushes that were refused
pub record PutsOn (before after : ListState) (asked : ℕ → Type 0) : Type 0 where
  pub whole : after.whole ≡ before.whole
  pub unshared : after.shares ≡ [] → before.shares ≡ []
  pub alone : before.whole ≡ true → after.shares ≡ before.shares
  pub family : before.whole ≡ false → 0 < length before.shares → IsSameList before.shares after.shares
  pub taken : before.whole ≡ false → 0 < length before.shares → taken_by_share (at after.shares 0) ≡ taken_by_share (at before.shares 0)
  pub put :
      before.whole ≡ false → 0 < length before.shares → (p : ℕ) → Contains (put_of (at after.shares 0)) p
      → Contains (put_of (at before.shares 0)) p ⊎ asked p
  pub kept :
      before.whole ≡ false → 0 < length before.shares → (p : ℕ) → Contains (put_of (at before.shares 0)) p → Contains (put_of (at after.shares 0)) p
  pub item :
      before.whole ≡ false → 0 < length before.shares → (p : ℕ) → Contains after.items p
      → Contains before.items p ⊎ Contains (put_of (at after.shares 0)) p
  pub refused :
      before.whole ≡ false → 0 < length before.shares → before.refused ≡ (at before.shares 0).refused → after.refused ≡ (at after.shares 0).refused

-- what stood on another list came to be on this one, unless a push was refused, and nothing else did; some of it may still come
pub record Relists (before rest : List ℕ) (old new : Marking) : Type 0 where
  pub on : new.on ≡ old.on
  pub puts : PutsOn old.list new.list (Contains before)
  pub some : (p : ℕ) → Contains rest p → Contains before p
  pub kept : new.overflow ≡ false → (p : ℕ) → Contains before p → Contains rest p ⊎ Contains new.list.items p
  pub only : (p : ℕ) → Contains new.list.items p → Contains old.list.items p ⊎ Contains before p
  pub told : TellsRefused (refusals_of old) (refusals_of new)
  pub unrefused : new.overflow ≡ false → old.overflow ≡ false

-- so many seats more are lent
abbrev pub lent_often : ℕ → SeatView → SeatView
lent_often count v = record v { mutator = record v.mutator { lent = v.lent + count } }

-- that a push was refused is told where it was before, and where the list's count of these isn't this one
pub record TellsRisen (before : ℕ) (old new : Marking) : Type 0 where
  pub rest : new ≡ record old { overflow = new.overflow }
  pub kept : old.overflow ≡ true → new.overflow ≡ true
  pub raised : (old.list.refused ≡ before → ⊥) → new.overflow ≡ true
  pub only : new.overflow ≡ true → (old.overflow ≡ true) ⊎ (old.list.refused ≡ before → ⊥)

-- nothing was found on any list at the end of the step, or the step took so many items that it was ended
abbrev pub IsIdleOrLong : GreyView → GreyView → Type 0
IsIdleOrLong old new =
    (new.marking.list.idle ≡ true)
    ⊎ (length (taken_by_share (at new.marking.list.shares 0)) ≡ length (taken_by_share (at old.marking.list.shares 0)) + (2 ^ 32 - 1))

-- each item that the owner's share had taken stays taken
abbrev pub KeepsTaken : GreyView → GreyView → Type 0
KeepsTaken old new = (p : ℕ) → Contains (taken_by_share (at old.marking.list.shares 0)) p → Contains (taken_by_share (at new.marking.list.shares 0)) p

-- the heap is the same, and what was marked or traced still is
pub record IsSameHeap (old new : SeatView) : Type 0 where
  pub heap : new.heap ≡ old.heap
  pub types : new.types ≡ old.types
  pub on : new.on ≡ old.on
  pub bodies : new.bodies ≡ old.bodies
  pub filled : new.filled ≡ old.filled
  pub dead : new.dead ≡ old.dead
  pub may : new.may ≡ old.may

-- the owner traced so many objects more: marking is under way as before, that something was refused is told, what is told as found
-- traced was found so, and beside markers what was taken stays taken; all else of what is kept of marking is the same
pub record IsStepped (v : SeatView) (g : GreyView) (w : SeatView) (k : GreyView) (count : ℕ) : Type 0 where
  pub same : IsSameHeap v w
  pub way : IsUnderWay w k.marking k.notes
  pub crew : CrewIsLent w k
  pub counted : traced_count w ≡ traced_count v + count
  pub pushes : TellsRefused (pushes_in g) (pushes_in k)
  pub notes : TellsRefused (notes_in g) (notes_in k)
  pub found : HasFound w k
  pub took : 0 < length g.running → KeepsTaken g k
  pub rest : k ≡ record g { marking = k.marking; notes = k.notes; found = k.found }

-- whether notes of one of the groups were refused, and how many of all
abbrev pub refusals_of_all : List NotesState → Refusals
refusals_of_all groups = record { told = list_any (λ x. x.overflow) groups; count = sum_by (λ x. x.refused) groups }

-- the markers were joined, which traced so many objects: marking can be brought to its end with the list and all notes, and that
-- something was refused since the cycle began is told
pub record IsJoined (v : SeatView) (g : GreyView) (w : SeatView) (after : Grey) (count : ℕ) : Type 0 where
  pub same : IsSameHeap v w
  pub ready : IsReadyToEnd v.types w after.marking after.crew.notes
  pub counted : traced_count w ≡ traced_count v + count
  pub home : after.crew.running ≡ []
  pub markers : after.crew.markers ≡ g.markers
  pub groups : length after.crew.notes ≡ g.markers + 1
  pub unshared : g.markers ≡ 0 → after.marking.list.shares ≡ []
  pub traced : after.traced ≡ g.traced
  pub since : after.since.value ≡ g.since
  pub earlier : after.earlier.value ≡ g.earlier
  pub pushes :
      TellsRefused (record { told = false; count = g.since.pushes })
      (record { told = after.marking.overflow; count = g.earlier + after.marking.list.refused })
  pub notes : TellsRefused (record { told = false; count = g.since.notes }) (refusals_of_all after.crew.notes)
