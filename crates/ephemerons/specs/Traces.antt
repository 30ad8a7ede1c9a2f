-- What tracing the words of an object does: which pairs are noted, which notes are made of them, and what is marked.
use Rattle.std.specs.Prelude.{◌≡◌, ◌⊎◌, ℕ, ◌+◌, Bool, true, false, List, [], ◌∷◌, ◌++◌, map, if◌then◌else◌, Contains}
use Rattle.object_headers.specs.Offsets.{reference_to}
use Rattle.type_table.specs.declared.traced.TracedWord.{TracedWord}
use Rattle.type_table.specs.declared.traced.TracedWord.TheVariants.{StrongAt, PairAt}
use Rattle.marker_core.specs.Bodies.{holds}
use Rattle.marker_core.specs.declared.states.Body.{Body}
use Rattle.page_words.specs.Seat.{SeatView}
use Rattle.pair_notes.specs.declared.notes.Note.{Note}
use Rattle.pair_notes.specs.BodyGraph.{word_at}
use Rattle.pair_notes.specs.Notes.{NotesState, note_of}

-- the note of a pair that the hand noted: holder, and offset of the key
abbrev pub note_from : ℕ × ℕ → Note
note_from pair = note_of pair.0 pair.1

-- the hand notes a pair unless its key is marked
abbrev pub noted_unless : Bool → ℕ → ℕ → List (ℕ × ℕ)
noted_unless marked holder offset = if marked then [] else (holder, offset) ∷ []

-- the new notes are those of the pairs, in order; where one was refused they are some of these
pub record FollowPairs (old new : NotesState) (pairs : List (ℕ × ℕ)) : Type 0 where
  pub made : List Note
  pub notes : new.notes ≡ old.notes ++ made
  pub all : new.overflow ≡ false → made ≡ map note_from pairs
  pub some : (note : Note) → Contains made note → Contains (map note_from pairs) note

-- the pair is one of these words of the body, and its key was not marked yet
pub record IsWaiting (u : SeatView) (b : Body) (words : List TracedWord) (pair : ℕ × ℕ) : Type 0 where
  pub holder : pair.0 ≡ b.place
  pub word : Contains words (PairAt pair.1)
  pub key : ℕ
  pub named : word_at b pair.1 ≡ reference_to key
  pub unmarked : holds u.marked key ≡ false

-- the key is marked, and the value of the pair at the offset is null or marked
pub record IsPairKept (w : SeatView) (b : Body) (offset key : ℕ) : Type 0 where
  pub marked : holds w.marked key ≡ true
  pub value : (q : ℕ) → word_at b (offset + 1) ≡ reference_to q → holds w.marked q ≡ true

-- one of these strong words of the body names it
pub record IsStrongTarget (b : Body) (words : List TracedWord) (q : ℕ) : Type 0 where
  pub offset : ℕ
  pub word : Contains words (StrongAt offset)
  pub named : word_at b offset ≡ reference_to q

-- it is the value of one of these pairs of the body, which has a key and isn't noted
pub record IsPairValue (b : Body) (words : List TracedWord) (pairs : List (ℕ × ℕ)) (q : ℕ) : Type 0 where
  pub offset : ℕ
  pub word : Contains words (PairAt offset)
  pub key : ℕ
  pub key_named : word_at b offset ≡ reference_to key
  pub named : word_at b (offset + 1) ≡ reference_to q
  pub unnoted : Contains pairs (b.place, offset) → ⊥

-- these words of the body at the place were traced. The hand noted some pairs, and the new notes follow these. Each noted pair
-- waits for its key; the key of each other pair is null or marked, and then so is its value; and nothing is marked but what
-- strong words name and the values of pairs with a key that are not noted
pub record Traces (u : SeatView) (old : NotesState) (w : SeatView) (new : NotesState) (place : ℕ) (words : List TracedWord) : Type 0 where
  pub pairs : List (ℕ × ℕ)
  pub noted : w.noted ≡ u.noted ++ pairs
  pub notes : FollowPairs old new pairs
  pub waiting : (b : Body) (pair : ℕ × ℕ) → Contains u.bodies b → b.place ≡ place → Contains pairs pair → IsWaiting u b words pair
  pub kept :
      (b : Body) (offset key : ℕ) → Contains u.bodies b → b.place ≡ place → Contains words (PairAt offset)
      → word_at b offset ≡ reference_to key → Contains pairs (place, offset) ⊎ IsPairKept w b offset key
  pub only :
      (b : Body) (q : ℕ) → Contains u.bodies b → b.place ≡ place → holds w.marked q ≡ true
      → (holds u.marked q ≡ true) ⊎ (IsStrongTarget b words q ⊎ IsPairValue b words pairs q)
