-- The laws of sweeping by pages, and of placement on the way.
use Rattle.std.specs.Prelude.{◌≡◌, ℕ, ◌+◌, ◌-◌, ◌*◌, ◌<◌, ◌≤◌, List, ◌++◌, Option, Some}
use Rattle.gc_graph.specs.State.{Shape, State}
use Rattle.gc_graph.specs.Sweep.{swept_pages, SweepsTo}
use Rattle.gc_graph.specs.Placement.{extents_of, Fits, IsPlacement}

-- a sweep to a page and then to a later one is the sweep to the later one, with the numbers joined
abbrev pub SweepsJoin : Type 0
SweepsJoin =
    (shape : Shape) (old mid new : State) (pages more : ℕ) (first second : List ℕ) → pages ≤ more → more ≤ shape.pages
    → SweepsTo shape old pages first mid → SweepsTo shape mid more second new → SweepsTo shape old more (first ++ second) new

-- a sweep to a page, with one to an earlier page on the way
pub record IsSplit (shape : Shape) (old : State) (pages more : ℕ) (numbers : List ℕ) (new : State) : Type 0 where
  pub first : List ℕ
  pub second : List ℕ
  pub mid : State
  pub sweeps : SweepsTo shape old pages first mid
  pub goes_on : SweepsTo shape mid more second new
  pub joined : numbers ≡ first ++ second

-- each sweep stops at each page on its way
abbrev pub SweepsSplit : Type 0
SweepsSplit =
    (shape : Shape) (old new : State) (pages more : ℕ) (numbers : List ℕ) → pages < more → more ≤ shape.pages
    → SweepsTo shape old more numbers new → IsSplit shape old pages more numbers new

-- a sweep to a page finalises the same numbers and comes to the same state, whenever it is made
abbrev pub SweepIsOne : Type 0
SweepIsOne =
    (shape : Shape) (old new other : State) (pages : ℕ) (numbers others : List ℕ) → SweepsTo shape old pages numbers new
    → SweepsTo shape old pages others other → (numbers ≡ others) × (new ≡ other)

-- where pages were swept on the way to a place, and the object fits in those that are swept, it lies in the last of them
abbrev pub PlacedInLastPage : Type 0
PlacedInLastPage =
    (shape : Shape) (old mid : State) (size a b : ℕ) (numbers : List ℕ) → (placement : IsPlacement shape old size numbers mid (Some a))
    → swept_pages shape old < placement.pages → Fits shape placement.pages (extents_of mid.nodes) size b
    → ((placement.pages - 1) * shape.page_words ≤ a) × (a + size ≤ placement.pages * shape.page_words)

-- there is one placement at most: the numbers, the state and the place of any two are the same
abbrev pub PlacementIsOne : Type 0
PlacementIsOne =
    (shape : Shape) (old mid other : State) (size : ℕ) (numbers others : List ℕ) (place elsewhere : Option ℕ)
    → IsPlacement shape old size numbers mid place → IsPlacement shape old size others other elsewhere
    → (numbers ≡ others) × (mid ≡ other) × (place ≡ elsewhere)
