-- Which headers the owner looks at on its way to the fixpoint: those of marked objects, and those of the keys of their pairs.
use Rattle.std.specs.Prelude.{◌≡◌, ◌⊎◌, ℕ, List, ◌++◌, true, Contains}
use Rattle.gc_graph.specs.State.{ObjectType}
use Rattle.object_headers.specs.Offsets.{reference_to}
use Rattle.marker_core.specs.declared.states.Body.{Body}
use Rattle.marker_core.specs.Bodies.{holds}
use Rattle.page_words.specs.Seat.{SeatView}
use Rattle.pair_notes.specs.declared.notes.Note.{Note}
use Rattle.pair_notes.specs.BodyGraph.{pair_offsets, word_at}
use Rattle.pair_notes.specs.Notes.{NotesState, IsNotedIn}
use Rattle.ephemerons.specs.Fixpoint.{Stage}

-- it is the key of a pair of a marked object
pub record IsKeyOfMarked (types : List ObjectType) (v : SeatView) (p : ℕ) : Type 0 where
  pub holder : Body
  pub there : Contains v.bodies holder
  pub marked : holds v.marked holder.place ≡ true
  pub offset : ℕ
  pub pair : Contains (pair_offsets types holder) offset
  pub key : word_at holder offset ≡ reference_to p

-- the object at the place is marked, or it is the key of a pair of a marked one
abbrev pub IsLookedAt : List ObjectType → SeatView → ℕ → Type 0
IsLookedAt types v p = (holds v.marked p ≡ true) ⊎ IsKeyOfMarked types v p

-- the headers that were looked at since are at such places
pub record LooksOnlyAt (is_so : ℕ → Type 0) (old new : SeatView) : Type 0 where
  pub more : List ℕ
  pub grown : new.looked ≡ old.looked ++ more
  pub each : (p : ℕ) → Contains more p → is_so p

-- the headers that were looked at since are those of objects that are marked now, and of keys of their pairs
abbrev pub LooksWithin : List ObjectType → SeatView → SeatView → Type 0
LooksWithin types old new = LooksOnlyAt (IsLookedAt types new) old new

-- what is listed is marked, and so is the holder of each note
pub record AreHoldersMarked (v : SeatView) (list : List ℕ) (groups : List NotesState) : Type 0 where
  pub listed : (p : ℕ) → Contains list p → holds v.marked p ≡ true
  pub noted : (note : Note) → IsNotedIn groups note → holds v.marked note.holder ≡ true

-- from one stage to a later one: where what was listed and noted was marked, it is so yet, and no other headers were looked at
-- than those of marked objects and of keys of their pairs
pub record LooksOnward (types : List ObjectType) (old new : Stage) : Type 0 where
  pub within : AreHoldersMarked old.view old.list old.groups → LooksWithin types old.view new.view
  pub holders : AreHoldersMarked old.view old.list old.groups → AreHoldersMarked new.view new.list new.groups
