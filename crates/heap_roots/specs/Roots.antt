-- What the handles of a heap and its region name together.
use Rattle.std.specs.Prelude.{ℕ, List, ◌++◌}
use Rattle.gc_graph.specs.State.{slot_targets, stack_targets, strong_region_targets}
use Rattle.cross_thread_region.specs.declared.chronicle.PlacedEntry.{PlacedEntry}
use Rattle.cross_thread_region.specs.Histories.{slots_of}
use Rattle.heap_roots.specs.Handles.{HandlesView}

-- what the strong slots, the pointers on the stack and the region's strong slots name
abbrev pub roots_in : HandlesView → List PlacedEntry → List ℕ
roots_in handles history =
    slot_targets handles.slots ++ stack_targets handles.stack.words ++ strong_region_targets (slots_of history)
