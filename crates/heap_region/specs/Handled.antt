-- The region's slots as handles of a heap's nodes.
use Rattle.std.specs.Prelude.{ℕ, List}
use Rattle.gc_graph.specs.Outcomes.{took}
use Rattle.gc_graph.specs.State.{Node, State}
use Rattle.gc_graph.specs.Valid.{AreLive, region_targets}
use Rattle.std.specs.Prelude.{◌≡◌}
use Rattle.cross_thread_region.specs.declared.chronicle.PlacedEntry.{PlacedEntry}
use Rattle.cross_thread_region.specs.Histories.{slots_of, IsPlacedBy}
use Rattle.heap_objects.specs.Marks.{HasMarks}
use Rattle.heap_objects.specs.Nodes.{place_of}
use Rattle.heap_objects.specs.Objects.{ObjectsView}
use Rattle.heap_region.specs.Owned.{OwnedView, piece_of}

-- each slot that isn't null names a live node, and has its place
pub record IsHandled (nodes : List Node) (history : List PlacedEntry) : Type 0 where
  pub live : AreLive nodes (region_targets (slots_of history))
  pub placed : IsPlacedBy (place_of nodes) history

-- the objects were at most looked at, and what the entries that were taken read weakly may be kept
pub record LooksAgain (o : ObjectsView) (old : OwnedView) (new : OwnedView) (after : ObjectsView) : Type 0 where
  pub others : after ≡ record o { seat = after.seat }
  pub marks :
      (s : State) (limit : ℕ) → s.nodes ≡ o.nodes → s.region ≡ slots_of old.taken → HasMarks s.phase limit s.may o
      → HasMarks s.phase limit (took s (piece_of old new)).may after
