-- What the calls of this program want of a heap.
use Rattle.std.specs.Prelude.{◌≡◌, ℕ, ◌+◌, ◌≤◌, length}
use Rattle.oilpan.specs.View.{View}
use Rattle.oilpan.specs.declared.handles.Root.{Root}
use Rattle.oilpan.specs.Handles.{Holds}

-- the heap has the two types and room for so many commands
abbrev pub IsReady : ℕ → View → Type 0
IsReady count heap = (length heap.setup.types ≡ 2) × (heap.state.ordinal + count ≤ 1000)

-- it is ready, and the root holds
abbrev pub IsReadyWith : ℕ → View → Root → Type 0
IsReadyWith count heap root = IsReady count heap × Holds heap.state root
