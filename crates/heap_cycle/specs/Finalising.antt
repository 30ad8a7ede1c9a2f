-- Sweeping up to an address, over words and nodes.
use Rattle.std.specs.Prelude.{◌≡◌, ℕ, ◌≤◌, List, ◌++◌}
use Rattle.gc_graph.specs.State.{Shape, State}
use Rattle.gc_graph.specs.Placement.{Fits, IsNowhere, extents_of}
use Rattle.gc_graph.specs.Sweep.{swept_pages, SweepsTo}

-- an open sweep went on until so many pages were swept, and its numbers follow those that were told before
pub record SweepsOn (shape : Shape) (old : State) (pages : ℕ) (before after : List ℕ) (new : State) : Type 0 where
  pub numbers : List ℕ
  pub follow : after ≡ before ++ numbers
  pub goes : SweepsTo shape old pages numbers new

-- page after page was swept, up to so many, and in none of the states on the way does the object fit in the pages that are swept then
pub record IsSearched (shape : Shape) (old : State) (size pages : ℕ) (numbers : List ℕ) (mid : State) : Type 0 where
  pub forward : swept_pages shape old ≤ pages
  pub within : pages ≤ shape.pages
  pub swept : SweepsTo shape old pages numbers mid
  pub nowhere :
      (fewer : ℕ) (before : List ℕ) (s : State) → swept_pages shape old ≤ fewer → fewer ≤ pages → SweepsTo shape old fewer before s
      → IsNowhere (Fits shape fewer (extents_of s.nodes) size)
