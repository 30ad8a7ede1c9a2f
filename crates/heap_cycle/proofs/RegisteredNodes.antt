-- The registered prefinalizers before a pause.
use Rattle.std.proofs.Common.{◌≡◌, ℕ, All, List, length, sym, ◌∙◌}
use Rattle.gc_graph.specs.State.{Node, IsLive}
use Rattle.gc_graph.specs.State.Life.{Live, Gone}
use Rattle.callback_table.specs.declared.registry.Registered.{Registered}
use Rattle.callback_table.specs.Registry.{IsRegistered}
use Rattle.heap_cycle.specs.declared.parts.Parts.{Parts}
use Rattle.heap_cycle.specs.Views.{IsPlaced}
use Rattle.heap_cycle.specs.Parts.{IsReady}
use Rattle.heap_roots.specs.NodePlaces.{live_is_there}
use Rattle.heap_cycle.specs.Registrations.{live_entries}
use Rattle.gc_graph.specs.NodeNumbers.{there_below}

one_registered : (nodes : List Node) (callbacks : ℕ) (e : Registered) → IsPlaced nodes callbacks e → IsLive nodes e.node → IsRegistered nodes callbacks e
one_registered nodes callbacks e placed live = record {
  stands = record {
    there = there_below nodes e.node (live_is_there nodes e.node live);
    place_is = placed.place;
    not_gone = λ gone. (let e : Live ≡ Gone = sym live ∙ gone in cc);
  };
  known = placed.known;
}

-- each stands at the place of its node
pub registered_placed : (s : Parts) → IsReady s → All (IsRegistered s.objects.nodes (length s.objects.callbacks)) s.cycle.registered
registered_placed s ready = λ k d low.
    one_registered s.objects.nodes (length s.objects.callbacks) _ (ready.tied.registered k d low) (live_entries s.objects.nodes s.cycle.registered ready.valid.registered k d low)
