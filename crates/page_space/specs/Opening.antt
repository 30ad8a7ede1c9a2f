-- Where an object goes: the objects that stay, and the ends of the gap that it leaves.
use Rattle.std.specs.Prelude.{◌≡◌, ◌⊎◌, ℕ, ◌+◌, ◌*◌, ◌<◌, ◌≤◌, ◌==◌, not, List, filter, Contains}
use Rattle.gc_graph.specs.State.{Shape}
use Rattle.gc_graph.specs.Placement.{Extent}
use Rattle.gap_bounds.specs.Bodies.{end_of, IsPlace}
use Rattle.gap_bounds.specs.Body.{Body}

-- the extents but for that at the place
abbrev pub without_place : List Extent → ℕ → List Extent
without_place extents a = filter (λ e. not (e.place == a)) extents

-- a gap that reaches to a begins no lower: the page begins there, or an object before a ends there
abbrev pub IsEdgeBefore : Shape → List Body → ℕ → ℕ → ℕ → Type 0
IsEdgeBefore shape bodies page a edge =
    (edge ≤ a)
    × ((edge ≡ page * shape.page_words) ⊎ ((b : Body) × Contains bodies b × (b.place < a) × (end_of b ≡ edge)))

-- a gap that reaches to the address ends no higher: the page ends there, or an object begins there
abbrev pub IsEndAfter : Shape → List Body → ℕ → ℕ → ℕ → Type 0
IsEndAfter shape bodies page after end =
    (after ≤ end) × (end ≤ (page + 1) * shape.page_words)
    × ((end ≡ (page + 1) * shape.page_words) ⊎ IsPlace bodies end)
