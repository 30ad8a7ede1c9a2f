-- What a walk from object to object through a page knows.
use Rattle.std.specs.Prelude.{ℕ, ◌+◌, ◌*◌, ◌/◌, ◌<◌, ◌≤◌, List, Contains}
use Rattle.gc_graph.specs.State.{Shape}
use Rattle.gc_graph.specs.Placement.{Extent}
use Rattle.gap_bounds.specs.Bodies.{end_of}
use Rattle.gap_bounds.specs.Body.{Body}
use Rattle.gap_bounds.specs.Seat.{block_words}
use Rattle.gap_bounds.specs.Gaps.{IsGap}

-- where the block of an address ends
abbrev pub block_end : ℕ → ℕ
block_end a = a / block_words * block_words + block_words

-- each object that begins before the address ends by it
abbrev pub IsEdge : List Body → ℕ → Type 0
IsEdge bodies a = (b : Body) → Contains bodies b → b.place < a → end_of b ≤ a

-- a gap of the page that begins from the one address up to, and without, the other
abbrev pub BeginsBetween : Shape → List Extent → ℕ → ℕ → ℕ → ℕ → ℕ → Type 0
BeginsBetween shape extents size page from until a = (from ≤ a) × (a < until) × IsGap shape extents size page a
