-- What is taken of a history, and what the objects are looked at for it.
use Rattle.std.specs.Prelude.{◌≡◌, ℕ, List, take, drop}
use Rattle.gc_graph.specs.declared.region.Entry.{Entry}
use Rattle.gc_graph.specs.Outcomes.{took}
use Rattle.gc_graph.specs.State.{State}
use Rattle.cross_thread_region.specs.declared.chronicle.PlacedEntry.{PlacedEntry}
use Rattle.cross_thread_region.specs.Histories.{entries_of, slots_of}
use Rattle.heap_objects.specs.Marks.{HasMarks}
use Rattle.heap_objects.specs.Objects.{ObjectsView}

-- the entries of a history from one place in it to another
abbrev pub entries_between : ℕ → ℕ → List PlacedEntry → List Entry
entries_between from to history = entries_of (drop from (take to history))

-- the objects were at most looked at, and what the entries after this history read weakly may be kept
pub record HasLooked (o : ObjectsView) (history : List PlacedEntry) (entries : List Entry) (after : ObjectsView) : Type 0 where
  pub others : after ≡ record o { seat = after.seat }
  pub marks :
      (s : State) (limit : ℕ) → s.nodes ≡ o.nodes → s.region ≡ slots_of history → HasMarks s.phase limit s.may o
      → HasMarks s.phase limit (took s entries).may after
