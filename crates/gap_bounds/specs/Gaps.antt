-- What is remembered of gaps, the words of a page that belong to no object.
use Rattle.std.specs.Prelude.{◌≡◌, ℕ, ◌+◌, ◌-◌, ◌*◌, ◌/◌, ◌^◌, ◌<◌, ◌≤◌, ◌&&◌, nat_le, nat_lt, if◌then◌else◌, true, false, Bool, List, slice_index, slice_index_or}
use Rattle.gc_graph.specs.State.{Shape}
use Rattle.gc_graph.specs.Placement.{Extent, IsTaken, PageHasBucket, bucket_of}
use Rattle.page_words.specs.Seat.{block_words}

-- n is one of the numbers from first up to, and without, end
abbrev pub is_between : ℕ → ℕ → ℕ → Bool
is_between first end n = nat_le first n && nat_lt n end

-- so many classes of sizes there are: each size below 64 has one of its own, and each power of two from 64 to 8,192 has
-- one for the sizes up to the next
abbrev pub class_count : ℕ
class_count = 72

-- the least size of a class
abbrev pub least_of : ℕ → ℕ
least_of class = if nat_lt class 64 then class else 2 ^ (class - 58)

-- the class, told by its number and its least size, of sizes like this one: one of its own below 64
pub record IsClassOf (size class least : ℕ) : Type 0 where
  pub number : class < class_count
  pub least_is : least ≡ least_of class
  pub below : least ≤ size
  pub own : size < 64 → least ≡ size
  pub large : 64 ≤ size → 64 ≤ least

-- for each block of the heap how long a gap can be that begins there, for each page how long one can be, and whether
-- these are known; and for each class an address below which no gap of its least size begins
pub record GapTable : Type 0 where
  pub bounds : List ℕ
  pub most : List ℕ
  pub known : List Bool
  pub first : List ℕ

-- the bound of the block in which the address lies
abbrev pub bound_at : GapTable → ℕ → ℕ
bound_at gaps a = slice_index gaps.bounds (a / block_words)

-- what is told of the page holds
abbrev pub is_known : GapTable → ℕ → Bool
is_known gaps page = slice_index_or gaps.known page false

-- words from a, within the page, that belong to no object
pub record IsGap (shape : Shape) (extents : List Extent) (size page a : ℕ) : Type 0 where
  pub first : page * shape.page_words ≤ a
  pub last : a + size ≤ (page + 1) * shape.page_words
  pub free : (x : ℕ) → a ≤ x → x < a + size → IsTaken extents x → ⊥

-- the page holds an object of the bucket of the class
abbrev pub HasClass : Shape → List Extent → ℕ → ℕ → Type 0
HasClass shape extents class page = PageHasBucket shape.page_words extents page (bucket_of shape.page_words (least_of class))

-- no gap is hidden: none is longer than the bound of its block or of its page, where these are known; and none of a
-- class begins below the class's address in a page that has the class's bucket, nor in such a page of which nothing is
-- known
pub record KnowsGaps (shape : Shape) (extents : List Extent) (gaps : GapTable) : Type 0 where
  pub bounded : (page size a : ℕ) → is_known gaps page ≡ true → IsGap shape extents size page a → size ≤ bound_at gaps a
  pub most : (page size a : ℕ) → is_known gaps page ≡ true → IsGap shape extents size page a → size ≤ slice_index gaps.most page
  pub first :
      (class page size a : ℕ) → HasClass shape extents class page → least_of class ≤ size → IsGap shape extents size page a
      → slice_index gaps.first class ≤ a
  pub unknown :
      (class page : ℕ) → HasClass shape extents class page → is_known gaps page ≡ false
      → slice_index gaps.first class ≤ page * shape.page_words
