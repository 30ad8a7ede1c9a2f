-- A space: the pages of a heap over the bodies in its words.
use Rattle.std.specs.Prelude.{◌≡◌, ◌⊎◌, ◌↔◌, ℕ, ◌+◌, ◌*◌, ◌/◌, ◌%◌, ◌^◌, ◌<◌, ◌≤◌, true, List, [], ◌∷◌, length, map, count_by, sum_by, slice_index, Contains, All, ⊤}
use Rattle.gc_graph.specs.State.{Shape}
use Rattle.gc_graph.specs.Placement.{Extent, IsRun, UsesPage, IsEmptyPage, Fits, StartsEmptyRun, bucket_of}
use Rattle.gc_graph.specs.PlacementLaw.{LiesInPage, TakesPages}
use Rattle.object_headers.specs.declared.header.Header.{Header}
use Rattle.gap_bounds.specs.Bodies.{end_of, IsPlace, holds}
use Rattle.gap_bounds.specs.Body.{Body}
use Rattle.gap_bounds.specs.SeatFacts.{IsBitTold}
use Rattle.atomic_table.specs.Seated.{TableId}
use Rattle.gap_bounds.specs.Seat.{Heap, SeatView, block_words}
use Rattle.page_space.specs.Pages.{PageTable, word_count, first_page, is_in_page, free_words}
use Rattle.gap_bounds.specs.Gaps.{GapTable, KnowsGaps}

-- what a space keeps beside the words: its shape, the table in which its words lie, how many objects it has and how many
-- words these, its page table, and what it remembers of its gaps
pub record SpaceView : Type 0 where
  pub shape : Shape
  pub words : TableId
  pub objects : ℕ
  pub used : ℕ
  pub table : PageTable
  pub gaps : GapTable

-- which words they are: as many as the shape has, in this table
abbrev pub heap_of : SpaceView → Heap
heap_of space = record { count = word_count space.shape; table = space.words }

-- the seat is that of the space's words
abbrev pub IsSeatOf : SpaceView → SeatView → Type 0
IsSeatOf space v = v.heap ≡ heap_of space

-- the words of a body
abbrev pub body_extent : Body → Extent
body_extent b = record { place = b.place; size = b.size }

-- the words of each body
abbrev pub extents_of_bodies : List Body → List Extent
extents_of_bodies bodies = map body_extent bodies

-- each object has a place of its own
abbrev pub ExtentPlacesDiffer : List Extent → Type 0
ExtentPlacesDiffer [] = ⊤
ExtentPlacesDiffer (e ∷ extents) = All (λ d. d.place ≡ e.place → ⊥) extents × ExtentPlacesDiffer extents

-- an object of at most half a page lies in one page; a larger one starts a page and takes no more pages than it needs
abbrev pub IsPlacedWell : Shape → Extent → Type 0
IsPlacedWell shape e =
    ((e.size ≤ shape.page_words / 2) × LiesInPage shape e.size e.place)
    ⊎ ((shape.page_words / 2 < e.size) × TakesPages shape e.size e.place)

-- the space belongs to words with these objects
pub record IsSpaceOver (space : SpaceView) (count : ℕ) (extents : List Extent) : Type 0 where
  pub seat : count ≡ word_count space.shape
  pub differ : ExtentPlacesDiffer extents
  -- a header and a serial number
  pub sizes : (e : Extent) → Contains extents e → 2 ≤ e.size
  pub placed : (e : Extent) → Contains extents e → IsPlacedWell space.shape e
  -- objects that share a page are of one bucket, and a large one shares none
  pub shared :
      (page : ℕ) (d e : Extent) → Contains extents d → Contains extents e → is_in_page space.shape.page_words page d ≡ true
      → is_in_page space.shape.page_words page e ≡ true
      → bucket_of space.shape.page_words d.size ≡ bucket_of space.shape.page_words e.size
  pub alone :
      (page : ℕ) (d e : Extent) → Contains extents d → Contains extents e → is_in_page space.shape.page_words page d ≡ true
      → is_in_page space.shape.page_words page e ≡ true → bucket_of space.shape.page_words e.size ≡ 4 → d ≡ e
  -- the counts and the table are right
  pub objects : space.objects ≡ length extents
  pub used : space.used ≡ sum_by (λ e. e.size) extents
  -- each word is free or belongs to one object
  pub free : free_words extents count + sum_by (λ e. e.size) extents ≡ count
  pub held :
      (page : ℕ) → page < space.shape.pages
      → slice_index space.table.objects page ≡ count_by (is_in_page space.shape.page_words page) extents
  pub buckets :
      (page : ℕ) (e : Extent) → Contains extents e → is_in_page space.shape.page_words page e ≡ true
      → slice_index space.table.buckets page ≡ bucket_of space.shape.page_words e.size
  pub starts :
      (page : ℕ) (e : Extent) → Contains extents e → is_in_page space.shape.page_words page e ≡ true
      → slice_index space.table.starts page ≡ first_page space.shape.page_words e
  pub gaps : KnowsGaps space.shape extents space.gaps

-- the space belongs to these words, with these objects
pub record IsSpaceIn (space : SpaceView) (heap : Heap) (extents : List Extent) : Type 0 where
  pub words : heap ≡ heap_of space
  pub over : IsSpaceOver space heap.count extents
  pub open over use *

-- the space belongs to the words of the seat
abbrev pub IsSpaceOf : SpaceView → SeatView → Type 0
IsSpaceOf space v = IsSpaceIn space v.heap (extents_of_bodies v.bodies)

-- an object of the size, which isn't large, fits at a, in a page of its bucket, from the one page up to the other
abbrev pub FitsBetween : Shape → ℕ → ℕ → List Extent → ℕ → ℕ → Type 0
FitsBetween shape from to extents size a =
    (size ≤ shape.page_words / 2)
    × ((page : ℕ) × (from ≤ page) × (page < to) × IsRun shape.page_words extents size page a)

-- a new object of the size may go to a: it fits there in a page of its bucket, or an empty run of pages starts there
abbrev pub IsFreePlace : Shape → List Extent → ℕ → ℕ → Type 0
IsFreePlace shape extents size a = Fits shape shape.pages extents size a ⊎ StartsEmptyRun shape extents size a

-- what a header tells of its body: type and size, and mark and traced bit as far as the seat set them or no view is lent
pub record IsHeaderOf (v : SeatView) (b : Body) (header : Header) : Type 0 where
  pub ty : header.ty ≡ b.ty
  pub size : header.size ≡ b.size
  pub mark : IsBitTold v.lent (holds v.marked b.place) header.mark
  pub traced : IsBitTold v.lent (holds v.traced b.place) header.traced

-- bit i of the word tells whether an object starts at the word i of the block
abbrev pub AreStartsOf : List Body → ℕ → ℕ → Type 0
AreStartsOf bodies block bits = (i : ℕ) → i < block_words → (bits / 2 ^ i % 2 ≡ 1) ↔ IsPlace bodies (block_words * block + i)

-- no object starts from low up to high
abbrev pub HasNoStart : List Body → ℕ → ℕ → Type 0
HasNoStart bodies low high = (a : ℕ) → low ≤ a → a < high → IsPlace bodies a → ⊥

-- the body at a has the word at the address
abbrev pub HoldsAddress : List Body → ℕ → ℕ → Type 0
HoldsAddress bodies address a = (b : Body) × Contains bodies b × (b.place ≡ a) × (a ≤ address) × (address < end_of b)

-- the highest start from low up to, and without, high
abbrev pub IsLastStart : List Body → ℕ → ℕ → ℕ → Type 0
IsLastStart bodies low high a = IsPlace bodies a × (low ≤ a) × (a < high) × HasNoStart bodies (a + 1) high

-- each body with a word in the page lies in the page
abbrev pub HoldsWhole : Shape → List Body → ℕ → Type 0
HoldsWhole shape bodies page =
    (b : Body) (a : ℕ) → Contains bodies b → b.place ≤ a → a < end_of b → page * shape.page_words ≤ a
    → a < (page + 1) * shape.page_words → (page * shape.page_words ≤ b.place) × (end_of b ≤ (page + 1) * shape.page_words)

-- an object of the size fits at a, in this page, which has its bucket
abbrev pub FitsIn : Shape → List Body → ℕ → ℕ → ℕ → Type 0
FitsIn shape bodies size page a = IsRun shape.page_words (extents_of_bodies bodies) size page a

-- the page after this one where it holds an object, or what was before
abbrev pub SinceEmpty : Shape → List Extent → ℕ → ℕ → ℕ → Type 0
SinceEmpty shape extents page before after =
    (UsesPage shape extents page × (after ≡ page + 1)) ⊎ (IsEmptyPage shape extents page × (after ≡ before))
