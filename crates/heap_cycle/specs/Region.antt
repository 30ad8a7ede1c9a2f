-- The region of a heap, as a part of it.
use Rattle.std.specs.Prelude.{◌≡◌, false}
use Rattle.gc_graph.specs.CycleSteps.{is_marking}
use Rattle.cross_thread_region.specs.Histories.{is_started, IsPlacedBy}
use Rattle.heap_roots.specs.Nodes.{place_of}
use Rattle.heap_cycle.specs.declared.parts.Parts.{Parts}

-- the region belongs to the other parts: it is not closed, its slots have the places of what they name, and a collection was started
-- exactly where marking goes on
pub record HasRegion (s : Parts) : Type 0 where
  pub opened : s.region.closed ≡ false
  pub placed : IsPlacedBy (place_of s.objects.nodes) s.region.taken
  pub started : is_started s.region.taken ≡ is_marking s.cycle.phase
