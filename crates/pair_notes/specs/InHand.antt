-- What is in the machine's hand while an object is traced, and what is true of the view then.
use Rattle.std.specs.Prelude.{◌≡◌, ℕ, true, false, List, [], ◌∷◌, ◌++◌, Option, Some, None, Contains}
use Rattle.gc_graph.specs.State.{ObjectType}
use Rattle.object_headers.specs.Offsets.{first_field, reference_to}
use Rattle.page_words.specs.TracedWord.{TracedWord}
use Rattle.page_words.specs.TracedWord.TheVariants.{StrongAt, PairAt}
use Rattle.page_words.specs.Body.{Body}
use Rattle.page_words.specs.Hand.{Hand}
use Rattle.page_words.specs.Part.{Part}
use Rattle.page_words.specs.Part.TheVariants.{Read, Mark}
use Rattle.page_words.specs.MachineBodies.{kinds_of_type, holds}
use Rattle.page_words.specs.Hands.{traced_offsets, hand_past, hand_moved, part_found, role_at_hand, wants_word, each_hand}
use Rattle.page_words.specs.Roles.{kind_lists}
use Rattle.page_words.specs.Seat.{SeatView, IsAlone}
use Rattle.pair_notes.specs.BodyGraph.{strong_offsets, pair_offsets}
use Rattle.pair_notes.specs.Marking.{heap_and_marks, HasTargetMarked}
use Rattle.pair_notes.specs.Notes.{NotesState, HasPairNoted}

-- marking goes on, nothing waits for its mark, and no view is lent
pub record IsTracing (v : SeatView) : Type 0 where
  pub on : v.on ≡ true
  pub no_pending : v.pending ≡ None
  pub none_lent : v.lent ≡ 0

-- what the reference names, if it isn't null, may be kept
abbrev pub MayMark : SeatView → ℕ → Type 0
MayMark v w = (p : ℕ) → w ≡ reference_to p → holds v.may p ≡ true

-- ---- an object is claimed

-- the view in which the object at the place is traced too
abbrev pub with_trace : SeatView → ℕ → SeatView
with_trace v a = record v { mutator = record v.mutator { traced = v.traced ++ a ∷ [] } }

-- the object at the place is in hand past the offset: at its first strong word or pair after it, if there is one
abbrev pub IsPast : SeatView → ℕ → ℕ → ℕ → Type 0
IsPast v place ty offset = v.hand ≡ hand_past (kind_lists v.types) place ty offset

-- the object at the place, of the type, is traced from now on, and in hand past its serial number
pub record Claims (old new : SeatView) (place ty : ℕ) : Type 0 where
  pub marks : heap_and_marks new ≡ heap_and_marks (with_trace old place)
  pub hand : IsPast new place ty 1
  pub no_pending : new.pending ≡ None
  pub noted : new.noted ≡ old.noted

-- the object was only looked at
pub record OnlyLooks (old new : SeatView) : Type 0 where
  pub marks : heap_and_marks new ≡ heap_and_marks old
  pub alone : IsAlone new
  pub noted : new.noted ≡ old.noted

-- ---- its words are traced

-- the offsets of the strong words and the pairs of objects of a type
abbrev pub traced_in : List ObjectType → ℕ → List ℕ
traced_in types ty = traced_offsets first_field (kinds_of_type (kind_lists types) ty)

-- the object at the place, of the type, is in hand at the first of these offsets; nothing is where there are none
abbrev pub hand_over : ℕ → ℕ → List ℕ → Option Hand
hand_over place ty [] = None
hand_over place ty (offset ∷ offsets) = Some (record { place = place; ty = ty; next = offset; part = Read })

-- the list begins with these
abbrev pub BeginsWith : List ℕ → List ℕ → Type 0
BeginsWith all first = (rest : List ℕ) × (all ≡ first ++ rest)

-- the hand, moved on to the next strong word or pair
abbrev pub moved_on : SeatView → Option Hand
moved_on v = each_hand (hand_moved (kind_lists v.types)) v.hand

-- the object at the place is in hand, this far with its strong word or its pair at the offset
pub record IsAt (offsets : List ObjectType → Body → List ℕ) (v : SeatView) (place offset : ℕ) (part : Part) : Type 0 where
  pub body : Body
  pub there : Contains v.bodies body
  pub place_is : body.place ≡ place
  pub among : Contains (offsets v.types body) offset
  pub hand : v.hand ≡ Some (record { place = place; ty = body.ty; next = offset; part = part })

-- the hand wants the word at a, whose target it marks
pub record IsAtTarget (v : SeatView) (a : ℕ) : Type 0 where
  pub hand : Hand
  pub is : v.hand ≡ Some hand
  pub wants : wants_word hand hand.part a ≡ true
  pub target : (t : ℕ) → part_found (role_at_hand (kind_lists v.types) hand) hand.part t ≡ Mark t

-- the object at the place is in hand at this traced word, of which nothing is read yet
abbrev pub IsAtWord : SeatView → ℕ → TracedWord → Type 0
IsAtWord v place (StrongAt offset) = IsAt strong_offsets v place offset Read
IsAtWord v place (PairAt offset) = IsAt pair_offsets v place offset Read

-- what the traced word of the object at the place asks for is done: a strong word's target is marked, and a pair has a
-- marked or null value or a null key, or is noted unless a note was refused
abbrev pub IsWordTraced : List ObjectType → SeatView → ℕ → NotesState → TracedWord → Type 0
IsWordTraced types v place notes (StrongAt offset) = HasTargetMarked v place offset
IsWordTraced types v place notes (PairAt offset) = notes.overflow ≡ false → HasPairNoted types v place offset (Contains notes.notes)
