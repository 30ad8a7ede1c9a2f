-- The region's strong slots name roots, and a start entry tells their places.
use Rattle.std.proofs.Common.{ℕ, List, ◌++◌, get_or}
use Rattle.std.proofs.lemmas.List.Elements.{All-append, All-contains, Contains-get_or}
use Rattle.gc_graph.specs.Members.{holds_from}
use Rattle.gc_graph.specs.State.{Node, IsLive, slot_targets, stack_targets, strong_region_targets}
use Rattle.gc_graph.specs.Valid.{AreLive, region_targets}
use Rattle.cross_thread_region.specs.declared.chronicle.PlacedEntry.{PlacedEntry}
use Rattle.cross_thread_region.specs.Histories.{slots_of, start_told}
use Rattle.cross_thread_region.specs.PlacedNodes.{strong_target_is_target, strong_place_named, told_strong}
use Rattle.heap_region.specs.AmongNodes.{IsAmong, among_left, among_right}
use Rattle.heap_region.specs.Nodes.{place_of}
use Rattle.heap_region.specs.Marks.{TellsRoots}
use Rattle.heap_roots.specs.Handles.{HandlesView}
use Rattle.heap_region.specs.Handled.{IsHandled}
use Rattle.heap_roots.specs.Roots.{roots_in}

-- what a strong slot names is a root
pub slot_among : (handles : HandlesView) (history : List PlacedEntry) (n : ℕ) → IsAmong (slot_targets handles.slots) n → IsAmong (roots_in handles history) n
slot_among handles history n is =
    among_left (slot_targets handles.slots ++ stack_targets handles.stack.words) (strong_region_targets (slots_of history)) n
    (among_left (slot_targets handles.slots) (stack_targets handles.stack.words) n is)

shared_live : (nodes : List Node) (history : List PlacedEntry) → IsHandled nodes history → AreLive nodes (strong_region_targets (slots_of history))
shared_live nodes history shared k d low =
    let targets : List ℕ = strong_region_targets (slots_of history) in
    All-contains (IsLive nodes) (region_targets (slots_of history)) (get_or targets k d) shared.live
    (strong_target_is_target (slots_of history) (get_or targets k d) (Contains-get_or targets k d low))

-- the roots are live
pub roots_live : (nodes : List Node) (handles : HandlesView) (history : List PlacedEntry) → AreLive nodes (slot_targets handles.slots)
    → AreLive nodes (stack_targets handles.stack.words) → IsHandled nodes history → AreLive nodes (roots_in handles history)
roots_live nodes handles history slots stack shared =
    let named : List ℕ = slot_targets handles.slots in
    let pointed : List ℕ = stack_targets handles.stack.words in
    All-append (IsLive nodes) (named ++ pointed) (strong_region_targets (slots_of history)) (All-append (IsLive nodes) named pointed slots stack)
    (shared_live nodes history shared)

-- each place that a start tells is that of a root
pub tells_roots : (nodes : List Node) (handles : HandlesView) (history : List PlacedEntry) → IsHandled nodes history
    → TellsRoots nodes (roots_in handles history) (start_told history 32)
tells_roots nodes handles history shared p told =
    let slot = told_strong history 32 p told in
    let node = strong_place_named (place_of nodes) history slot.0 p shared.placed slot.2 in
    let targets : List ℕ = strong_region_targets (slots_of history) in
    let live : IsLive nodes node.0 =
    All-contains (IsLive nodes) (region_targets (slots_of history)) node.0 shared.live (strong_target_is_target (slots_of history) node.0 node.1) in (
      node.0,
      among_right (slot_targets handles.slots ++ stack_targets handles.stack.words) targets node.0 (holds_from targets node.0 node.1),
      (live, node.2),
    )
