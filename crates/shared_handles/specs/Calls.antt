-- What the calls of this program want of a heap.
use Rattle.std.specs.Prelude.{◌≡◌, ℕ, ◌+◌, ◌≤◌, length}
use Rattle.oilpan.specs.View.{View}

-- the heap has the one type and room for so many commands
abbrev pub IsReady : ℕ → View → Type 0
IsReady count heap = (length heap.setup.types ≡ 1) × (heap.state.ordinal + count ≤ 1000)
