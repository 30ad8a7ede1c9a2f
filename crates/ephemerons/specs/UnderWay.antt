-- Marking that is under way, between two commands: what its list and its notes tell, and when it is ready to end.
use Rattle.std.specs.Prelude.{◌≡◌, ◌⊎◌, ◌<◌, ℕ, List, [], None, length, true, false, Contains}
use Rattle.gc_graph.specs.State.{ObjectType}
use Rattle.mark_worklist.specs.declared.marking.Marking.{Marking}
use Rattle.marker_core.specs.Bodies.{holds}
use Rattle.page_words.specs.Seat.{SeatView, IsAlone, IsStill}
use Rattle.pair_notes.specs.declared.notes.Note.{Note}
use Rattle.pair_notes.specs.BodyGraph.{BodyHasPair}
use Rattle.pair_notes.specs.Notes.{NotesState, IsNote, IsNotedIn, note_of}
use Rattle.ephemerons.specs.Traces.{note_from}
use Rattle.ephemerons.specs.Fixpoint.{IsAccounted, IsUnrefused}

-- the note is of a pair of an object that is traced
abbrev pub IsOfTraced : List ObjectType → SeatView → Note → Type 0
IsOfTraced types v note = BodyHasPair types v.bodies note.holder note.word × (holds v.traced note.holder ≡ true)

-- what is grey is listed, unless a push was refused
abbrev pub ListsGrey : SeatView → Marking → Type 0
ListsGrey v marking =
    marking.overflow ≡ false → (p : ℕ) → holds v.marked p ≡ true → holds v.traced p ≡ false → Contains marking.list.items p

-- marking is under way: the owner's state tells that it goes on; nothing is in hand, and nothing waits for its mark; what is
-- listed is marked, and what is grey, as far as this view tells, is listed or noted unless something was refused, and listed
-- where the list never had shares; each note with a word is of a pair of an object, which this view knows to be traced, and what
-- the hand noted is among the notes unless a note was refused. Views and shares may be lent meanwhile
pub record IsUnderWay (v : SeatView) (marking : Marking) (notes : NotesState) : Type 0 where
  pub on : v.on ≡ true
  pub told : marking.on ≡ true
  pub still : IsStill v
  pub listed : (p : ℕ) → Contains marking.list.items p → holds v.marked p ≡ true
  pub grey :
      marking.overflow ≡ false → notes.overflow ≡ false → (p : ℕ) → holds v.marked p ≡ true → holds v.traced p ≡ false
      → Contains marking.list.items p ⊎ Contains notes.notes (note_of p 0)
  pub unshared : marking.list.shares ≡ [] → ListsGrey v marking
  pub noted : (note : Note) → Contains notes.notes note → (note.word ≡ 0) ⊎ BodyHasPair v.types v.bodies note.holder note.word
  pub holders : (note : Note) → Contains notes.notes note → (note.word ≡ 0) ⊎ (holds v.traced note.holder ≡ true)
  pub recorded : notes.overflow ≡ false → (pair : ℕ × ℕ) → Contains v.noted pair → Contains notes.notes (note_from pair)

-- marking can be brought to its end: it goes on, and the owner is alone with the whole list; what is listed is marked, and each
-- note is of a marked object or a pair of one; and list and notes account for all that is left to do, unless something was refused
pub record IsReadyToEnd (types : List ObjectType) (v : SeatView) (marking : Marking) (groups : List NotesState) : Type 0 where
  pub on : v.on ≡ true
  pub told : marking.on ≡ true
  pub alone : IsAlone v
  pub whole : marking.list.whole ≡ true
  pub listed : (p : ℕ) → Contains marking.list.items p → holds v.marked p ≡ true
  pub noted : (note : Note) → IsNotedIn groups note → IsNote types v.bodies note
  pub holders : (note : Note) → IsNotedIn groups note → holds v.marked note.holder ≡ true
  pub accounted : IsUnrefused marking.overflow groups → IsAccounted types None v marking.list.items groups
  pub own : 0 < length groups
