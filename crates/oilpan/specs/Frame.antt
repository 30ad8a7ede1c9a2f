-- What a program says of a function of its own that makes calls of a heap.
use Rattle.std.specs.Prelude.{◌≡◌, ℕ, ◌+◌, ◌≤◌}
use Rattle.heap_engine.specs.View.{View}
use Rattle.oilpan.specs.declared.handles.Root.{Root}
use Rattle.oilpan.specs.Handles.{Holds}

-- at most so many commands were done, on a heap of the same types
abbrev pub Takes : ℕ → View → View → Type 0
Takes count old new = (new.setup ≡ old.setup) × (new.state.ordinal ≤ old.state.ordinal + count)

-- and each root that held holds
abbrev pub Keeps : ℕ → View → View → Type 0
Keeps count old new =
    (new.setup ≡ old.setup)
    × (new.state.ordinal ≤ old.state.ordinal + count)
    × ((o : Root) → Holds old.state o → Holds new.state o)

-- and each root that held holds, but for those of the slot of one, which was released
abbrev pub KeepsOthers : Root → ℕ → View → View → Type 0
KeepsOthers root count old new =
    (new.setup ≡ old.setup)
    × (new.state.ordinal ≤ old.state.ordinal + count)
    × ((o : Root) → Holds old.state o → ¬ (o.slot ≡ root.slot) → Holds new.state o)
