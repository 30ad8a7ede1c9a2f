-- A heap of two objects, on which tracing is tried.
use Rattle.std.specs.Prelude.{◌≡◌, ◌⊎◌, ℕ, true, List, [], ◌∷◌, Contains}
use Rattle.gc_graph.specs.declared.kind.Kind.{Kind}
use Rattle.gc_graph.specs.declared.kind.Kind.TheVariants.{Strong, Pair}
use Rattle.gc_graph.specs.State.{ObjectType}
use Rattle.marker_core.specs.declared.states.Body.{Body}
use Rattle.mark_worklist.specs.declared.marking.Marking.{Marking}
use Rattle.marker_core.specs.Bodies.{IsPlace, holds}
use Rattle.page_words.specs.Seat.{SeatView, IsQuiet, IsAlone}
use Rattle.page_space.specs.Space.{SpaceView, IsSeatOf}
use Rattle.pair_notes.specs.Notes.{NotesState}
use Rattle.pair_notes.specs.declared.notes.Note.{Note}

-- one type, with two fields and no prefinalizer
abbrev pub two_fields : Kind → Kind → List ObjectType
two_fields first second = record { kinds = first ∷ second ∷ []; prefinalizers = []; weak_callbacks = [] } ∷ []

-- one type, with a pair and after it a strong field
abbrev pub pair_then_strong : List ObjectType
pair_then_strong = two_fields Pair Strong

-- the first object has these words, and the words of the second one are null
abbrev pub two_bodies : ℕ → ℕ → ℕ → List Body
two_bodies key value strong =
    record { place = 0; ty = 0; size = 5; serial = 1; fields = key ∷ value ∷ strong ∷ [] }
    ∷ record { place = 256; ty = 0; size = 5; serial = 2; fields = 0 ∷ 0 ∷ 0 ∷ [] } ∷ []

-- null, or a reference to one of the two
abbrev pub IsEither : ℕ → Type 0
IsEither w = (w ≡ 0) ⊎ ((w ≡ 1) ⊎ (w ≡ 257))

-- nothing is marked yet, and these are the words of the two objects
pub record IsSmallHeap (v : SeatView) (key value strong : ℕ) : Type 0 where
  pub known : v.types ≡ pair_then_strong
  pub quiet : IsQuiet v
  pub bodies : v.bodies ≡ two_bodies key value strong

-- it is the place of one of the two
abbrev pub IsEitherPlace : ℕ → Type 0
IsEitherPlace p = (p ≡ 0) ⊎ (p ≡ 256)

-- it is a note of the pair of one of the two
pub record IsEitherPair (note : Note) : Type 0 where
  pub holder : IsEitherPlace note.holder
  pub word : note.word ≡ 2

-- marking goes on and nothing is in hand or waits for its mark; both objects may be kept, and the first one has these words
pub record IsSmallHeapTraced (v : SeatView) (key value strong : ℕ) : Type 0 where
  pub known : v.types ≡ pair_then_strong
  pub on : v.on ≡ true
  pub alone : IsAlone v
  pub bodies : v.bodies ≡ two_bodies key value strong
  pub holder : holds v.may 0 ≡ true
  pub other : holds v.may 256 ≡ true

-- marking goes on over the words of the space, and the second object is there
pub record IsMarkingSmallHeap (space : SpaceView) (types : List ObjectType) (v : SeatView) : Type 0 where
  pub heap : IsSeatOf space v
  pub known : types ≡ v.types
  pub on : v.on ≡ true
  pub other : IsPlace v.bodies 256

-- marking goes on for the marking state too, no share of its list is out, and what is listed and noted is of the two
pub record AreOfTheTwo (marking : Marking) (notes : NotesState) : Type 0 where
  pub told : marking.on ≡ true
  pub whole : marking.list.whole ≡ true
  pub listed : (p : ℕ) → Contains marking.list.items p → IsEitherPlace p
  pub noted : (note : Note) → Contains notes.notes note → IsEitherPair note
