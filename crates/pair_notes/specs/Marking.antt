-- What marking may change, what it may mark, and how it ends.
use Rattle.std.specs.Prelude.{◌≡◌, ℕ, ◌+◌, Bool, true, List, [], None, Contains, count_by}
use Rattle.gc_graph.specs.State.{ObjectType}
use Rattle.page_words.specs.Body.{Body}
use Rattle.page_words.specs.MachineBodies.{holds}
use Rattle.page_words.specs.Closed.{IsClosedOver}
use Rattle.page_words.specs.Roles.{kind_lists}
use Rattle.page_words.specs.Seat.{SeatView}
use Rattle.pair_notes.specs.BodyGraph.{strong_offsets, word_at}

-- the heap and its marks: the view without what was seen, looked at or noted, is in hand or waits for its mark
abbrev pub heap_and_marks : SeatView → SeatView
heap_and_marks v = record v {
  mutator = record v.mutator { pending = None; seen = []; noted = []; hand = None; looked = []; done = []; missed = [] };
}

-- the heap alone: the same without marks and traced bits
abbrev pub heap_alone : SeatView → SeatView
heap_alone v = record v { mutator = record (heap_and_marks v).mutator { marked = []; traced = [] } }

-- the bodies and what may be kept are as before, and what was marked or traced still is
pub record MarksOn (old new : SeatView) : Type 0 where
  pub heap : new.heap ≡ old.heap
  pub types : new.types ≡ old.types
  pub on : new.on ≡ old.on
  pub bodies : new.bodies ≡ old.bodies
  pub filled : new.filled ≡ old.filled
  pub dead : new.dead ≡ old.dead
  pub may : new.may ≡ old.may
  pub lent : new.lent ≡ old.lent
  pub marked : (p : ℕ) → holds old.marked p ≡ true → holds new.marked p ≡ true
  pub traced : (p : ℕ) → holds old.traced p ≡ true → holds new.traced p ≡ true

-- what is marked now lies in each test that is closed over the bodies and holds of what was marked
abbrev pub GrowsWithin : List ObjectType → SeatView → SeatView → Type 0
GrowsWithin types old new =
    (test : ℕ → Bool) → IsClosedOver (kind_lists types) old.bodies test → ((p : ℕ) → holds old.marked p ≡ true → test p ≡ true)
    → (p : ℕ) → holds new.marked p ≡ true → test p ≡ true

-- what the word at the offset of the body at the place names is marked
abbrev pub HasTargetMarked : SeatView → ℕ → ℕ → Type 0
HasTargetMarked v place offset =
    (b : Body) (q : ℕ) → Contains v.bodies b → b.place ≡ place → word_at b offset ≡ q + 1 → holds v.marked q ≡ true

-- what the strong fields of the body at the place name is marked
abbrev pub HasStrongMarked : List ObjectType → SeatView → ℕ → Type 0
HasStrongMarked types v place =
    (b : Body) (offset q : ℕ) → Contains v.bodies b → b.place ≡ place → Contains (strong_offsets types b) offset
    → word_at b offset ≡ q + 1 → holds v.marked q ≡ true

-- what the strong fields of traced bodies name is marked
abbrev pub TracedNameMarked : List ObjectType → SeatView → Type 0
TracedNameMarked types v = (p : ℕ) → holds v.traced p ≡ true → HasStrongMarked types v p

-- how many bodies are traced
abbrev pub traced_count : SeatView → ℕ
traced_count v = count_by (λ b. holds v.traced b.place) v.bodies

-- marking has come to its end: nothing is grey, and what is marked is closed over the bodies
pub record IsOver (types : List ObjectType) (v : SeatView) : Type 0 where
  pub no_grey : (p : ℕ) → holds v.marked p ≡ true → holds v.traced p ≡ true
  pub closed : IsClosedOver (kind_lists types) v.bodies (holds v.marked)
