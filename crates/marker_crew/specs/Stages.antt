-- What a marker has while it drains, and what it makes of it.
use Rattle.std.specs.Prelude.{◌≡◌, ◌⊎◌, ℕ, ◌+◌, ◌<◌, ◌≤◌, true, false, List, length, Contains}
use Rattle.mark_worklist.specs.Refusals.{TellsRefused}
use Rattle.pair_notes.specs.declared.notes.Note.{Note}
use Rattle.pair_notes.specs.Notes.{NotesState, note_of, noted, overflowed, refusals_in}
use Rattle.page_words.specs.Markers.{MarkerSeatView}
use Rattle.mark_worklist.specs.Shares.{ShareState, IsSameShare, put_of, taken_by_share, share_pushed, refused_once, last_count}
use Rattle.marker_crew.specs.declared.draining.Drained.{Drained}

-- a marker's seat, its share of the lists, its notes, and what it has told of the drain so far
pub record DrainStage : Type 0 where
  pub seat : MarkerSeatView
  pub share : ShareState
  pub notes : NotesState
  pub drained : Drained

-- the stage with these
abbrev pub drain_stage : MarkerSeatView → ShareState → NotesState → Drained → DrainStage
drain_stage seat share notes drained = record { seat = seat; share = share; notes = notes; drained = drained }

-- ---- what is written down

-- a push or a note was refused
abbrev pub with_overflow : Drained → Drained
with_overflow d = record d { overflow = true }

-- the place was put on the share's list, or the push was refused, which is told
abbrev pub Lists : ShareState → Drained → ℕ → ShareState → Drained → Type 0
Lists old before place new after =
    ((new ≡ share_pushed old place) × (after ≡ before)) ⊎ ((new ≡ refused_once old) × (after ≡ with_overflow before))

-- the note was made, or was refused, which is told
abbrev pub Notes : NotesState → Drained → ℕ → ℕ → NotesState → Drained → Type 0
Notes old before holder word new after =
    ((new ≡ noted old holder word) × (after ≡ before)) ⊎ ((new ≡ overflowed old) × (after ≡ with_overflow before))

-- ---- from one stage to a later one

-- what is in the list stays in it
abbrev pub KeepsItems : {X : Type 0} → List X → List X → Type 0
KeepsItems old new = (x : _) → Contains old x → Contains new x

-- the seat is of the same words, and the share has the same lists; what the seat marked, traced, noted, found traced or missed
-- stays so, what was put, taken and noted stays, and that something was refused stays told
pub record IsLater (s t : DrainStage) : Type 0 where
  pub heap : t.seat.heap ≡ s.seat.heap
  pub types : t.seat.types ≡ s.seat.types
  pub lists : IsSameShare s.share t.share
  pub marked : KeepsItems s.seat.marked t.seat.marked
  pub traced : KeepsItems s.seat.traced t.seat.traced
  pub noted : KeepsItems s.seat.noted t.seat.noted
  pub done : KeepsItems s.seat.done t.seat.done
  pub missed : KeepsItems s.seat.missed t.seat.missed
  pub put : KeepsItems (put_of s.share) (put_of t.share)
  pub taken : KeepsItems (taken_by_share s.share) (taken_by_share t.share)
  pub notes : KeepsItems s.notes.notes t.notes.notes
  pub overflow : t.drained.overflow ≡ false → s.drained.overflow ≡ false

-- the seat looked at words, and marked, traced and noted nothing; what it found traced or missed stays so
pub record MarkerOnlyLooks (v w : MarkerSeatView) : Type 0 where
  pub heap : w.heap ≡ v.heap
  pub types : w.types ≡ v.types
  pub marked : w.marked ≡ v.marked
  pub traced : w.traced ≡ v.traced
  pub noted : w.noted ≡ v.noted
  pub done : KeepsItems v.done w.done
  pub missed : KeepsItems v.missed w.missed

-- why a place is noted alone: the seat missed it, or it isn't one of the heap
abbrev pub HasCauseToNote : MarkerSeatView → ℕ → Type 0
HasCauseToNote v a = Contains v.missed a ⊎ (v.count ≤ a)

-- the note is of a pair that the seat noted, of an object that it traced; or it is of a place alone, which the share took, and
-- has a cause
abbrev pub IsNoteOf : MarkerSeatView → ShareState → Note → Type 0
IsNoteOf v h note =
    (Contains v.noted (note.holder, note.word) × Contains v.traced note.holder)
    ⊎ ((note.word ≡ 0) × (Contains (taken_by_share h) note.holder × HasCauseToNote v note.holder))

-- a count of what was refused has risen, or stands at its last value
abbrev pub HasRisen : ℕ → ℕ → Type 0
HasRisen old new = (old < new) ⊎ (last_count ≤ new)

-- the work of a drain between two stages, of a marker's or of the owner's step: as many objects are traced as are counted; unless
-- something was refused, what the seat marked is put on its share's list; unless a note was, what it noted is in the notes; what
-- is put was marked; each note has its cause; and that something was refused comes to be told where a push or a note was
pub record MarkerWorks (s t : DrainStage) : Type 0 where
  pub later : IsLater s t
  pub counted : t.drained.traced + length s.seat.traced ≡ s.drained.traced + length t.seat.traced
  pub listed : t.drained.overflow ≡ false → (a : ℕ) → Contains t.seat.marked a → Contains s.seat.marked a ⊎ Contains (put_of t.share) a
  pub put : (a : ℕ) → Contains (put_of t.share) a → Contains (put_of s.share) a ⊎ Contains t.seat.marked a
  pub noted :
      t.notes.overflow ≡ false → (p offset : ℕ) → Contains t.seat.noted (p, offset)
      → Contains s.seat.noted (p, offset) ⊎ Contains t.notes.notes (note_of p offset)
  pub notes : (note : Note) → Contains t.notes.notes note → Contains s.notes.notes note ⊎ IsNoteOf t.seat t.share note
  pub refused_pushes : s.share.refused ≤ t.share.refused
  pub notes_told : TellsRefused (refusals_in s.notes) (refusals_in t.notes)
  pub cause :
      t.drained.overflow ≡ true
      → (s.drained.overflow ≡ true) ⊎ (HasRisen s.share.refused t.share.refused ⊎ (t.notes.overflow ≡ true))

-- ---- an item

-- unless the notes tell that one was refused, an item is traced by this seat, or found traced, or noted with word 0, whether or not
-- a push was refused
abbrev pub IsDealtWithIn : DrainStage → ℕ → Type 0
IsDealtWithIn t a =
    t.notes.overflow ≡ false → Contains t.seat.traced a ⊎ (Contains t.seat.done a ⊎ Contains t.notes.notes (note_of a 0))
