-- What changes in a heap, and what was seen there, as far as gaps go.
use Rattle.std.specs.Prelude.{◌≡◌, ◌⊎◌, ℕ, ◌+◌, ◌*◌, ◌/◌, ◌<◌, ◌≤◌, Bool, true, false, List, length, slice_index}
use Rattle.gc_graph.specs.State.{Shape}
use Rattle.gc_graph.specs.Placement.{Extent}
use Rattle.page_words.specs.Seat.{block_words}
use Rattle.gap_bounds.specs.Bounds.{group_blocks}
use Rattle.gap_bounds.specs.Gaps.{GapTable, IsGap, HasClass, least_of, is_known, is_between}

-- the tables are of the same heap: as many blocks, and as many pages
pub record AreOfOneHeap (old new : GapTable) : Type 0 where
  pub blocks : length new.bounds ≡ length old.bounds
  pub pages : length new.most ≡ length old.most

-- pages have so many groups of blocks
abbrev pub HasGroups : Shape → ℕ → Type 0
HasGroups shape groups = shape.page_words ≡ block_words * (group_blocks * groups)

-- no gap that begins in a block from the one up to the other is longer
abbrev pub AreBounded : Shape → List Extent → ℕ → ℕ → ℕ → Type 0
AreBounded shape extents first end longest =
    (page size a : ℕ) → IsGap shape extents size page a → first ≤ a / block_words → a / block_words < end → size ≤ longest

-- a page that has the bucket of a class had it before
abbrev pub HadClasses : Shape → List Extent → List Extent → Type 0
HadClasses shape before after = (class page : ℕ) → HasClass shape after class page → HasClass shape before class page

-- where an object went, a gap that is new lies between these two addresses of the page
abbrev pub GapsOpened : Shape → List Extent → List Extent → ℕ → ℕ → ℕ → Type 0
GapsOpened shape before after page from until =
    (q size a : ℕ) → IsGap shape after size q a
    → IsGap shape before size q a ⊎ ((q ≡ page) × (from ≤ a) × (a + size ≤ until))

-- where objects went, a gap that is new lies in a page from the one up to the other
abbrev pub GapsOpenedIn : Shape → List Extent → List Extent → ℕ → ℕ → Type 0
GapsOpenedIn shape before after first end =
    (q size a : ℕ) → is_between first end q ≡ false → IsGap shape after size q a → IsGap shape before size q a

-- where an object came, no gap is new, and a page has a bucket which it had not only if it begins from an address on, and
-- the page at that address was empty
pub record GapsTaken (shape : Shape) (before after : List Extent) (start : ℕ) (was_empty : Bool) : Type 0 where
  pub gaps : (q size a : ℕ) → IsGap shape after size q a → IsGap shape before size q a
  pub classes :
      (class q : ℕ) → HasClass shape after class q
      → HasClass shape before class q ⊎ ((was_empty ≡ true) × (start ≤ q * shape.page_words))

-- the next search of a class may begin at an address of the page, or at its end: none began above the page, and no gap
-- of the class begins before the address
pub record MayBegin (shape : Shape) (extents : List Extent) (gaps : GapTable) (class page at : ℕ) : Type 0 where
  pub some : 1 ≤ shape.page_words
  pub least : 1 ≤ least_of class
  pub low : page * shape.page_words ≤ slice_index gaps.first class
  pub high : at ≤ (page + 1) * shape.page_words
  pub known : HasClass shape extents class page → is_known gaps page ≡ true
  pub worth :
      (size a : ℕ) → HasClass shape extents class page → least_of class ≤ size → IsGap shape extents size page a
      → at ≤ a
