-- The laws of placement and of sweeping.
use Rattle.std.specs.Prelude.{◌≡◌, ◌⊎◌, ℕ, ◌+◌, ◌*◌, ◌/◌, ◌<◌, ◌≤◌, true, List, length, Some, slice_index, Contains, All}
use Rattle.gc_graph.specs.declared.phase.Phase.TheVariants.{Idle, Sweeping}
use Rattle.gc_graph.specs.State.{Setup, Shape, State, Node, node_at, IsDead}
use Rattle.gc_graph.specs.State.Life.{Gone}
use Rattle.gc_graph.specs.May.{has_word}
use Rattle.gc_graph.specs.Pages.{IsInPage, bucket_of_node}
use Rattle.gc_graph.specs.Placement.{extents_of, bucket_of, PageHasBucket, IsPlacement}
use Rattle.gc_graph.specs.Sweep.{SweepsToEnd}
use Rattle.gc_graph.specs.Valid.{IsValid}

-- the words lie within one page
pub record LiesInPage (shape : Shape) (size a : ℕ) : Type 0 where
  pub page : ℕ
  pub within : page < shape.pages
  pub first : page * shape.page_words ≤ a
  pub last : a + size ≤ (page + 1) * shape.page_words

-- the words begin at the first word of a page, and no more pages are taken than they need
pub record TakesPages (shape : Shape) (size a : ℕ) : Type 0 where
  pub page : ℕ
  pub count : ℕ
  pub within : page + count ≤ shape.pages
  pub first : a ≡ page * shape.page_words
  pub enough : size ≤ count * shape.page_words
  pub least : count * shape.page_words < size + shape.page_words

-- no node that is there, live or dead, has one of the words
abbrev pub AreFree : List Node → ℕ → ℕ → Type 0
AreFree nodes size a = (n x : ℕ) → a ≤ x → x < a + size → has_word (node_at nodes n) x ≡ true → ⊥

-- within one page, in which no object of another bucket has a word
pub record JoinsPage (shape : Shape) (nodes : List Node) (size a : ℕ) : Type 0 where
  pub lies : LiesInPage shape size a
  pub one_bucket :
      (n : ℕ) → IsInPage shape.page_words (node_at nodes n) lies.page
      → bucket_of_node shape.page_words (node_at nodes n) ≡ bucket_of shape.page_words size

-- over pages of which each holds no other object
pub record TakesEmptyPages (shape : Shape) (nodes : List Node) (size a : ℕ) : Type 0 where
  pub takes : TakesPages shape size a
  pub empty : (i n : ℕ) → i < takes.count → IsInPage shape.page_words (node_at nodes n) (takes.page + i) → ⊥

-- an object of at most half a page joins a page of its bucket or an empty one, and a larger one takes empty pages
abbrev pub GoesBySize : Shape → List Node → ℕ → ℕ → Type 0
GoesBySize shape nodes size a =
    ((size ≤ shape.page_words / 2) × JoinsPage shape nodes size a)
    ⊎ ((shape.page_words / 2 < size) × TakesEmptyPages shape nodes size a)

-- a new object of a valid state goes where its size lets it, to words that no object has
abbrev pub PlacementIsFree : Type 0
PlacementIsFree =
    (setup : Setup) (old mid : State) (size a : ℕ) (numbers : List ℕ) → IsValid setup old → 0 < size
    → IsPlacement setup.shape old size numbers mid (Some a) → GoesBySize setup.shape mid.nodes size a × AreFree mid.nodes size a

-- a page of a valid state has one bucket at most
abbrev pub PagesHaveOneBucket : Type 0
PagesHaveOneBucket =
    (setup : Setup) (s : State) (page one other : ℕ) → IsValid setup s
    → PageHasBucket setup.shape.page_words (extents_of s.nodes) page one
    → PageHasBucket setup.shape.page_words (extents_of s.nodes) page other → one ≡ other

-- the numbers are those of the dead nodes of the old state, each once, by ascending places; in the new state they are
-- gone, no node is dead, and no sweep is open
pub record FinalisesDead (old : State) (numbers : List ℕ) (new : State) : Type 0 where
  pub dead : All (IsDead old.nodes) numbers
  pub whole : (n : ℕ) → IsDead old.nodes n → Contains numbers n
  pub once : (i j : ℕ) → i < j → j < length numbers → slice_index numbers i ≡ slice_index numbers j → ⊥
  pub ascending :
      (i j : ℕ) → i < j → j < length numbers
      → (node_at old.nodes (slice_index numbers i)).place < (node_at old.nodes (slice_index numbers j)).place
  pub gone : (n : ℕ) → IsDead old.nodes n → (node_at new.nodes n).life ≡ Gone
  pub none : (n : ℕ) → IsDead new.nodes n → ⊥
  pub others : (n : ℕ) → (IsDead old.nodes n → ⊥) → node_at new.nodes n ≡ node_at old.nodes n
  pub over : new.phase ≡ Idle

-- so does the end of an open sweep from a valid state
abbrev pub SweepsFinaliseDead : Type 0
SweepsFinaliseDead =
    (setup : Setup) (old new : State) (numbers : List ℕ) → IsValid setup old → old.phase ≡ Sweeping
    → SweepsToEnd setup.shape old numbers new → FinalisesDead old numbers new
