-- Notes of pairs whose key was not marked yet, and of objects that may still have to be traced.
use Rattle.std.specs.Prelude.{◌≡◌, ◌⊎◌, ℕ, ◌+◌, ◌<◌, Bool, true, false, List, [], ◌∷◌, ◌++◌, length, slice_index_or, Contains}
use Rattle.gc_graph.specs.State.{ObjectType}
use Rattle.mark_worklist.specs.Lists.{one_counted}
use Rattle.mark_worklist.specs.Refusals.{Refusals, TellsRefused}
use Rattle.page_words.specs.MachineBodies.{IsPlace, holds}
use Rattle.page_words.specs.Body.{Body}
use Rattle.page_words.specs.Seat.{SeatView}
use Rattle.pair_notes.specs.BodyGraph.{BodyHasPair, pair_offsets, word_at}
use Rattle.pair_notes.specs.declared.notes.Note.{Note}

-- the notes, in the order in which they were made, whether one was refused since they were cleared, and how many were since
-- the group was made
pub record NotesState : Type 0 where
  pub notes : List Note
  pub overflow : Bool
  pub refused : ℕ

-- nothing was noted and nothing refused
abbrev pub no_notes : NotesState
no_notes = record { notes = []; overflow = false; refused = 0 }

-- no notes, and that one was refused is forgotten; how many were is not
abbrev pub notes_cleared : NotesState → NotesState
notes_cleared s = record s { notes = []; overflow = false }

-- whether notes were refused, and how many
abbrev pub refusals_in : NotesState → Refusals
refusals_in s = record { told = s.overflow; count = s.refused }

-- the note of the pair at an offset of the object at a place; offset 0 is for the object itself
abbrev pub note_of : ℕ → ℕ → Note
note_of place offset = record { holder = place; word = offset }

-- the note with a number
abbrev pub note_at : NotesState → ℕ → Note
note_at s i = slice_index_or s.notes i (note_of 0 0)

-- one more note
abbrev pub noted : NotesState → ℕ → ℕ → NotesState
noted s place offset = record s { notes = s.notes ++ note_of place offset ∷ [] }

-- a note was refused
abbrev pub overflowed : NotesState → NotesState
overflowed s = record s { overflow = true; refused = one_counted s.refused }

-- the group with a number
abbrev pub group_at : List NotesState → ℕ → NotesState
group_at groups i = slice_index_or groups i no_notes

-- the note stands in one of the groups
abbrev pub IsNotedIn : List NotesState → Note → Type 0
IsNotedIn groups note = (i : ℕ) × (i < length groups) × Contains (group_at groups i).notes note

-- the note is for an object, or for one of its pairs
abbrev pub IsNote : List ObjectType → List Body → Note → Type 0
IsNote types bodies note =
    ((note.word ≡ 0) × IsPlace bodies note.holder) ⊎ BodyHasPair types bodies note.holder note.word

-- the notes of old are kept, new ones are for pairs, and that one was refused comes to be told where the count of these rose
pub record NotesGrow (types : List ObjectType) (bodies : List Body) (old new : NotesState) : Type 0 where
  pub kept : (note : Note) → Contains old.notes note → Contains new.notes note
  pub pairs : (note : Note) → Contains new.notes note → Contains old.notes note ⊎ BodyHasPair types bodies note.holder note.word
  pub overflow : new.overflow ≡ false → old.overflow ≡ false
  pub told : TellsRefused (refusals_in old) (refusals_in new)

-- the value of the pair of the body at the place is marked or null, or its key is null, or it is noted
abbrev pub HasPairNoted : List ObjectType → SeatView → ℕ → ℕ → (Note → Type 0) → Type 0
HasPairNoted types v place offset is_noted =
    (b : Body) (k w : ℕ) → Contains v.bodies b → b.place ≡ place → Contains (pair_offsets types b) offset
    → word_at b offset ≡ k + 1 → word_at b (offset + 1) ≡ w + 1 → (holds v.marked w ≡ true) ⊎ is_noted (note_of place offset)

-- the value of each pair of the body at the place is marked or null, or its key is null, or the pair is noted
abbrev pub HasPairsNoted : List ObjectType → SeatView → ℕ → (Note → Type 0) → Type 0
HasPairsNoted types v place is_noted = (offset : ℕ) → HasPairNoted types v place offset is_noted
