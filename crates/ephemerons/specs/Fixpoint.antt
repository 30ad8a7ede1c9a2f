-- One stage of the way to the fixpoint, what holds at each, and what a step of the way may change.
use Rattle.std.specs.Prelude.{◌≡◌, ◌⊎◌, ℕ, ◌+◌, ◌*◌, ◌^◌, ◌<◌, ◌≤◌, Bool, true, false, not, List, [], ◌∷◌, ◌++◌, length, Option, Some, None, Contains, count_by}
use Rattle.std.specs.List.{range_with_len}
use Rattle.gc_graph.specs.State.{ObjectType}
use Rattle.mark_worklist.specs.Refusals.{Refusals, TellsRefused, refusals_of}
use Rattle.mark_worklist.specs.declared.marking.Marking.{Marking}
use Rattle.marker_core.specs.Bodies.{IsPlace, holds}
use Rattle.marker_core.specs.declared.states.Body.{Body}
use Rattle.page_words.specs.Seat.{SeatView, IsAlone}
use Rattle.pair_notes.specs.declared.notes.Note.{Note}
use Rattle.pair_notes.specs.BodyGraph.{PlacesDiffer, AreReferences, pair_offsets, word_at}
use Rattle.pair_notes.specs.Marking.{heap_and_marks, heap_alone, MarksOn, GrowsWithin, TracedNameMarked, traced_count}
use Rattle.pair_notes.specs.Notes.{NotesState, group_at, refusals_in, IsNotedIn, IsNote, HasPairsNoted, note_of}

-- how many addresses are not marked
abbrev pub unmarked_count : SeatView → ℕ
unmarked_count v = count_by (λ p. not (holds v.marked p)) (range_with_len 0 v.count)

-- how many addresses are not traced
abbrev pub untraced_places : SeatView → ℕ
untraced_places v = count_by (λ p. not (holds v.traced p)) (range_with_len 0 v.count)

-- what steps leave of the owner's marking state: whether marking goes on, whether no share of the list is out, and how many
-- shares the list has
pub record Mode : Type 0 where
  pub on : Bool
  pub whole : Bool
  pub shares : ℕ

-- the mode of this state
abbrev pub mode_of : Marking → Mode
mode_of m = record { on = m.on; whole = m.list.whole; shares = length m.list.shares }

-- the seat's view, the owner's marking state, the groups of notes, and how many objects were traced
pub record Stage : Type 0 where
  pub view : SeatView
  pub mode : Mode
  pub refusals : Refusals
  pub list : List ℕ
  pub groups : List NotesState
  pub traced : ℕ

-- the stage of these
abbrev pub stage : SeatView → Marking → List NotesState → ℕ → Stage
stage v m groups n = record { view = v; mode = mode_of m; refusals = refusals_of m; list = m.list.items; groups = groups; traced = n }

-- marks and traces that may still come count, and so does what is listed
abbrev pub weight : Stage → ℕ
weight s = 2 * unmarked_count s.view + untraced_places s.view + length s.list

-- no push and no note was refused
pub record IsUnrefused (overflow : Bool) (groups : List NotesState) : Type 0 where
  pub pushes : overflow ≡ false
  pub notes : (i : ℕ) → i < length groups → (group_at groups i).overflow ≡ false

-- what holds at each stage
pub record IsGround (types : List ObjectType) (s : Stage) : Type 0 where
  pub on : s.view.on ≡ true
  pub told : s.mode.on ≡ true
  pub whole : s.mode.whole ≡ true
  pub known : s.view.types ≡ types
  pub alone : IsAlone s.view
  pub references : AreReferences types s.view.bodies
  pub traced_name_marked : TracedNameMarked types s.view
  pub listed : (p : ℕ) → Contains s.list p → IsPlace s.view.bodies p
  pub noted : (note : Note) → IsNotedIn s.groups note → IsNote types s.view.bodies note
  pub own : 0 < length s.groups
  pub few : s.traced + untraced_places s.view < 2 ^ 32

-- each grey object but the one that was taken from the list is listed or noted, and each pair of a traced object has a
-- marked or null value or a null key, or is noted
pub record IsAccounted (types : List ObjectType) (taken : Option ℕ) (v : SeatView) (list : List ℕ) (groups : List NotesState) : Type 0 where
  pub grey :
      (p : ℕ) → holds v.marked p ≡ true → holds v.traced p ≡ false
      → (taken ≡ Some p) ⊎ (Contains list p ⊎ IsNotedIn groups (note_of p 0))
  pub pairs : (p : ℕ) → holds v.traced p ≡ true → HasPairsNoted types v p (IsNotedIn groups)

-- the note asks for no more work: the object is traced if it is marked; and if holder and key are marked, so is the value
pub record NoteIsSettled (types : List ObjectType) (v : SeatView) (note : Note) : Type 0 where
  pub traced : note.word ≡ 0 → holds v.marked note.holder ≡ true → holds v.traced note.holder ≡ true
  pub value :
      (b : Body) (k w : ℕ) → Contains v.bodies b → b.place ≡ note.holder → Contains (pair_offsets types b) note.word
      → word_at b note.word ≡ k + 1 → word_at b (note.word + 1) ≡ w + 1 → holds v.marked note.holder ≡ true
      → holds v.marked k ≡ true → holds v.marked w ≡ true

-- marks that may still come count, and so does what is listed
abbrev pub weight_of : SeatView → Marking → ℕ
weight_of v m = 2 * unmarked_count v + length m.list.items

-- the place was put on the list, unless the push was refused
pub record IsListed (before after : Marking) (place : ℕ) : Type 0 where
  pub mode : mode_of after ≡ mode_of before
  pub overflow : after.overflow ≡ false → before.overflow ≡ false
  pub told : TellsRefused (refusals_of before) (refusals_of after)
  pub kept : (p : ℕ) → Contains before.list.items p → Contains after.list.items p
  pub listed : (p : ℕ) → Contains after.list.items p → Contains before.list.items p ⊎ (place ≡ p)
  pub there : after.overflow ≡ false → Contains after.list.items place
  pub length : length after.list.items ≤ length before.list.items + 1

-- the object at the place was marked, which had no mark before
pub record IsNewlyMarked (old new : SeatView) (p : ℕ) : Type 0 where
  pub place : IsPlace old.bodies p
  pub unmarked : holds old.marked p ≡ false
  pub marked : holds new.marked p ≡ true

-- objects were marked, and each of them is listed unless a push was refused; nothing else is
pub record ListsMarks (old : SeatView) (before : Marking) (new : SeatView) (after : Marking) : Type 0 where
  pub view : heap_alone new ≡ heap_alone old
  pub traced : new.traced ≡ old.traced
  pub no_hand : old.hand ≡ None → new.hand ≡ None
  pub no_pending : old.pending ≡ None → new.pending ≡ None
  pub marked : (p : ℕ) → holds old.marked p ≡ true → holds new.marked p ≡ true
  pub mode : mode_of after ≡ mode_of before
  pub overflow : after.overflow ≡ false → before.overflow ≡ false
  pub told : TellsRefused (refusals_of before) (refusals_of after)
  pub kept : (p : ℕ) → Contains before.list.items p → Contains after.list.items p
  pub listed : (p : ℕ) → Contains after.list.items p → Contains before.list.items p ⊎ IsNewlyMarked old new p
  pub fresh :
      after.overflow ≡ false → (p : ℕ) → holds new.marked p ≡ true → (holds old.marked p ≡ true) ⊎ Contains after.list.items p
  pub lighter : weight_of new after ≤ weight_of old before

-- the marking state, with the object that is held back from its list
abbrev pub with_held : Option ℕ → Marking → Marking
with_held None m = m
with_held (Some p) m = record m { list = record m.list { items = m.list.items ++ p ∷ [] } }

-- what is in one list is in the other, and they are equally long
pub record HoldTheSame (first second : List ℕ) : Type 0 where
  pub there : (p : ℕ) → Contains first p → Contains second p
  pub back : (p : ℕ) → Contains second p → Contains first p
  pub long : length second ≡ length first

-- the list and what is held back from it have together what they had, in any order
pub record IsStillHeld (before : Marking) (old : Option ℕ) (after : Marking) (new : Option ℕ) : Type 0 where
  pub items : HoldTheSame (with_held old before).list.items (with_held new after).list.items
  pub mode : mode_of (with_held new after) ≡ mode_of (with_held old before)
  pub refusals : refusals_of (with_held new after) ≡ refusals_of (with_held old before)

-- from one stage to a later one: more may be marked, traced and noted, and what was accounted for still is, with the
-- object that was taken from the list, unless a push or note was refused
pub record Works (types : List ObjectType) (taken : Option ℕ) (old new : Stage) : Type 0 where
  pub kept : MarksOn old.view new.view
  pub within : GrowsWithin types old.view new.view
  pub mode : new.mode ≡ old.mode
  pub unrefused : IsUnrefused new.refusals.told new.groups → IsUnrefused old.refusals.told old.groups
  pub told : TellsRefused old.refusals new.refusals
  pub notes_told : (i : ℕ) → TellsRefused (refusals_in (group_at old.groups i)) (refusals_in (group_at new.groups i))
  pub many : length new.groups ≡ length old.groups
  pub noted : (note : Note) → IsNotedIn old.groups note → IsNotedIn new.groups note
  pub accounted :
      IsUnrefused new.refusals.told new.groups → IsAccounted types taken old.view old.list old.groups
      → IsAccounted types None new.view new.list new.groups
  pub lighter : weight new ≤ weight old
  pub fewer : new.traced + untraced_places new.view ≤ old.traced + untraced_places old.view
  pub counted : PlacesDiffer old.view.bodies → traced_count new.view + old.traced ≡ traced_count old.view + new.traced

-- the stage without what was only seen or looked at
abbrev pub without_looks : Stage → Stage
without_looks s = record s { view = heap_and_marks s.view }

-- work was found and done, and there is less to do; or none was found, and all is as before
pub record Looks (types : List ObjectType) (taken : Option ℕ) (old new : Stage) (found : Bool) : Type 0 where
  pub works : Works types taken old new
  pub lighter : found ≡ true → weight new < weight old
  pub still : found ≡ false → without_looks new ≡ without_looks old

-- the object at the place asks for no more work, and none of its pairs does
abbrev pub IsSettledAt : List ObjectType → SeatView → ℕ → Type 0
IsSettledAt types v p = (offset : ℕ) → NoteIsSettled types v (note_of p offset)
