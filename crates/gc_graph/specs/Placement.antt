-- Where a new object goes (heap partitioning, `include/cppgc/README.md`).
use Rattle.std.specs.Prelude.{◌≡◌, ◌⊎◌, ℕ, ◌+◌, ◌*◌, ◌/◌, ◌<◌, ◌≤◌, nat_lt, nat_le, Bool, true, false, List, [], ◌∷◌, length, Option, Some, None, if◌then◌else◌, Contains, slice_index_or, count_by}
use Rattle.gc_graph.specs.State.{Shape, State, Node, is_there, size_of}
use Rattle.gc_graph.specs.Sweep.{swept_pages, SweepsTo}

-- the words of an object: the address of the first, and how many
pub record Extent : Type 0 where
  pub place : ℕ
  pub size : ℕ

-- the words of a node's object
abbrev pub extent_of : Node → Extent
extent_of node = record { place = node.place; size = size_of node }

-- the words of the objects that are not finalised, dead ones too
abbrev pub extents_of : List Node → List Extent
extents_of [] = []
extents_of (node ∷ nodes) =
    if is_there node.life then extent_of node ∷ extents_of nodes else extents_of nodes

-- the word is one of these
abbrev pub HasWord : Extent → ℕ → Type 0
HasWord e a = (e.place ≤ a) × (a < e.place + e.size)

-- some object has this word
abbrev pub IsTaken : List Extent → ℕ → Type 0
IsTaken extents a = (e : Extent) × Contains extents e × HasWord e a

-- the bucket of a size: 2 to 3, 4 to 7, 8 to 15, 16 to half a page, and large
abbrev pub bucket_of : ℕ → ℕ → ℕ
bucket_of page_words size =
    if nat_lt (page_words / 2) size then 4 else if nat_le 16 size then 3 else if nat_le 8 size then 2 else if nat_le 4 size then 1 else 0

-- an object of the bucket has a word in the page
abbrev pub PageHasBucket : ℕ → List Extent → ℕ → ℕ → Type 0
PageHasBucket page_words extents page bucket =
    (e : Extent) × (a : ℕ) × Contains extents e × HasWord e a
    × (page * page_words ≤ a) × (a < (page + 1) * page_words) × (bucket_of page_words e.size ≡ bucket)

-- words from a, within one page of the bucket, that belong to no object
pub record IsRun (page_words : ℕ) (extents : List Extent) (size page a : ℕ) : Type 0 where
  pub bucket : PageHasBucket page_words extents page (bucket_of page_words size)
  pub first : page * page_words ≤ a
  pub last : a + size ≤ (page + 1) * page_words
  pub free : (x : ℕ) → a ≤ x → x < a + size → IsTaken extents x → ⊥

-- an object of the size, which isn't large, fits at a, in a page of its bucket among the first so many
abbrev pub Fits : Shape → ℕ → List Extent → ℕ → ℕ → Type 0
Fits shape pages extents size a =
    (size ≤ shape.page_words / 2) × ((page : ℕ) × (page < pages) × IsRun shape.page_words extents size page a)

-- some object has a word in the page
abbrev pub UsesPage : Shape → List Extent → ℕ → Type 0
UsesPage shape extents page =
    (a : ℕ) × (page * shape.page_words ≤ a) × (a < (page + 1) * shape.page_words) × IsTaken extents a

-- no object has a word in the page
abbrev pub IsEmptyPage : Shape → List Extent → ℕ → Type 0
IsEmptyPage shape extents page = UsesPage shape extents page → ⊥

-- n pages are enough for the size, and no fewer are
abbrev pub IsPageCount : ℕ → ℕ → ℕ → Type 0
IsPageCount page_words size n = (size ≤ n * page_words) × (n * page_words < size + page_words)

-- a is the first word of a run of pages that hold no object and are just enough for the size
pub record StartsEmptyRun (shape : Shape) (extents : List Extent) (size a : ℕ) : Type 0 where
  pub page : ℕ
  pub count : ℕ
  pub enough : IsPageCount shape.page_words size count
  pub within : page + count ≤ shape.pages
  pub first : a ≡ page * shape.page_words
  pub empty : (i : ℕ) → i < count → IsEmptyPage shape extents (page + i)

-- the address is the lowest of which this holds
abbrev pub IsLowest : (ℕ → Type 0) → ℕ → Type 0
IsLowest P a = P a × ((b : ℕ) → b < a → P b → ⊥)

-- this holds of no address
abbrev pub IsNowhere : (ℕ → Type 0) → Type 0
IsNowhere P = (a : ℕ) → P a → ⊥

-- the place of a new object, where the first so many pages are swept: the lowest address at which it fits in these;
-- else, where they are all, the first word of the lowest empty run of pages; else none
abbrev pub IsPlaceFor : Shape → ℕ → List Extent → ℕ → Option ℕ → Type 0
IsPlaceFor shape pages extents size (Some a) =
    IsLowest (Fits shape pages extents size) a
    ⊎ ((pages ≡ shape.pages) × IsNowhere (Fits shape pages extents size) × IsLowest (StartsEmptyRun shape extents size) a)
IsPlaceFor shape pages extents size None =
    (pages ≡ shape.pages) × IsNowhere (Fits shape pages extents size) × IsNowhere (StartsEmptyRun shape extents size)

-- placement: pages are swept one by one until the object fits in those that are swept, or all are; this is the state
-- then, with the numbers that were finalised on the way, and the place
pub record IsPlacement (shape : Shape) (old : State) (size : ℕ) (numbers : List ℕ) (mid : State) (place : Option ℕ) : Type 0 where
  pub pages : ℕ
  pub forward : swept_pages shape old ≤ pages
  pub within : pages ≤ shape.pages
  pub swept : SweepsTo shape old pages numbers mid
  pub no_sooner :
      (fewer : ℕ) (before : List ℕ) (s : State) → swept_pages shape old ≤ fewer → fewer < pages → SweepsTo shape old fewer before s
      → IsNowhere (Fits shape fewer (extents_of s.nodes) size)
  pub placed : IsPlaceFor shape pages (extents_of mid.nodes) size place

-- n pages hold a word of an object: a flag for each page tells whether it does, and n flags are set
pub record IsUsedPages (shape : Shape) (extents : List Extent) (n : ℕ) : Type 0 where
  pub flags : List Bool
  pub whole : length flags ≡ shape.pages
  pub used : (page : ℕ) → slice_index_or flags page false ≡ true → UsesPage shape extents page
  pub empty : (page : ℕ) → page < shape.pages → slice_index_or flags page false ≡ false → IsEmptyPage shape extents page
  pub count : n ≡ count_by (λ flag. flag) flags
