-- What a pause does to the nodes: which it keeps, which it condemns, and what callbacks do.
use Rattle.std.specs.Prelude.{◌≡◌, ◌⊎◌, ℕ, ◌-◌, ◌<◌, ◌++◌, Bool, true, false, List, [], length, map, filter, take, All, Contains, Option}
use Rattle.std.specs.List.{list_any, range_with_len}
use Rattle.gc_graph.specs.declared.action.ActionKind.{ActionKind}
use Rattle.gc_graph.specs.Graph.{has, IsClosed, IsWithin}
use Rattle.gc_graph.specs.Reach.{Reach}
use Rattle.gc_graph.specs.declared.region.Op.TheVariants as O
use Rattle.gc_graph.specs.State.{ObjectType, Node, node_at, graph_of, slot_targets, strong_region_targets, IsLive}
use Rattle.gc_graph.specs.May.{has_word}
use Rattle.gc_graph.specs.Valid.{AreLive, region_targets}
use Rattle.gc_graph.specs.Pause.{condemn, dying_slots, run_order, prefinalised}
use Rattle.gc_graph.specs.WeakCalls.{weak_calls, called}
use Rattle.gc_graph.specs.History.{IsLegal, NamesWeakSlots}
use Rattle.gc_graph.specs.Outcomes.{IsThreadOp}
use Rattle.gc_graph.specs.ActionLaw.{HaveStayed}
use Rattle.cross_thread_region.specs.Calls.{RegionView, PassView, IsPassReady, history_with_own, seeing}
use Rattle.cross_thread_region.specs.declared.chronicle.PlacedEntry.{PlacedEntry}
use Rattle.cross_thread_region.specs.Histories.{entries_of, slots_of, is_started, IsPlacedBy}
use Rattle.callback_table.specs.Registry.{registrations_of, pairs_run, entries_left, RegistryView}
use Rattle.callback_table.specs.WeakRegistry.{WeakRegistryView, pair_called}
use Rattle.callback_table.specs.declared.registry.Registered.{Registered}
use Rattle.marker_core.specs.Bodies.{holds}
use Rattle.page_words.specs.Seat.{SeatView}
use Rattle.prefinalizer_effects.specs.KeyNodes.{IsKeyIn}
use Rattle.prefinalizer_effects.specs.Nodes.{place_of}
use Rattle.prefinalizer_effects.specs.PlacesInWords.{places_of_slots}
use Rattle.prefinalizer_effects.specs.Judgement.{nodes_after}
use Rattle.atomic_pause.specs.WeakCalling.{AreOfHolders}

-- the slots name live nodes, and these are the places of what they name
pub record NamePlaces (nodes : List Node) (slots places : List (Option ℕ)) : Type 0 where
  pub live : AreLive nodes (slot_targets slots)
  pub places_are : places ≡ places_of_slots nodes slots

-- the nodes that have a word at an address of the stack
abbrev pub hits_at : List Node → List ℕ → List ℕ
hits_at nodes stack = filter (λ n. list_any (λ a. has_word (node_at nodes n) a) stack) (range_with_len 0 (length nodes))

-- a precise pause doesn't look at the stack
abbrev pub hits_in : Bool → List Node → List ℕ → List ℕ
hits_in true nodes stack = []
hits_in false nodes stack = hits_at nodes stack

-- what the words may keep lies in the set, which has a flag for each node
pub record IsMayWithin (nodes : List Node) (v : SeatView) (may : List Bool) : Type 0 where
  pub whole : length may ≡ length nodes
  pub within : (n : ℕ) → IsLive nodes n → holds v.may (place_of nodes n) ≡ true → has may n ≡ true

-- a closed set was kept, which holds what the first roots reach, and lies in what the others reach
pub record IsKeptBetween (nodes : List Node) (least most : List ℕ) (kept : List Bool) : Type 0 where
  pub closed : IsClosed (graph_of nodes) kept
  pub reached : IsWithin (Reach (graph_of nodes) least) kept
  pub bounded : IsWithin kept (Reach (graph_of nodes) most)
  pub low : (n : ℕ) → has kept n ≡ true → n < length nodes

-- what the callbacks of a pause leave of the nodes that it kept: first the weak ones ran, then the prefinalizers of the condemned,
-- the last that was registered first
abbrev pub called_back : List ActionKind → List ObjectType → List Bool → List Registered → List Node → List Node
called_back callbacks types kept entries old =
    prefinalised callbacks (run_order (condemn kept old) (registrations_of entries))
    (called callbacks (weak_calls types (condemn kept old)) (nodes_after kept old))

-- a set between these bounds was kept, the other nodes were condemned, and what is weak and named one of these is null; the weak
-- callbacks of kept nodes ran, and the prefinalizers of the condemned, which are gone; of the weak callbacks, those of kept nodes
-- stay registered
pub record IsPaused
    (callbacks : List ActionKind) (types : List ObjectType) (least most : List ℕ) (old new : List Node)
    (before after : RegistryView) (weak_after : WeakRegistryView)
    : Type 0 where
  pub kept : List Bool
  pub between : IsKeptBetween old least most kept
  pub nodes_are : new ≡ called_back callbacks types kept before.entries old
  pub stayed : HaveStayed (nodes_after kept old) new
  pub left : after.entries ≡ entries_left (condemn kept old) before.entries
  pub ran : after.ran ≡ pairs_run (condemn kept old) before.entries
  pub weak_left : AreOfHolders types new weak_after.entries
  pub weak_ran : weak_after.ran ≡ map pair_called (weak_calls types (condemn kept old))

-- the node is kept, or it is the key of a pair of a kept node, as the fields were before
abbrev pub IsKeptOrKey : List Node → List Node → ℕ → Type 0
IsKeptOrKey old new m = IsLive new m ⊎ ((n : ℕ) × IsLive new n × IsKeyIn (node_at old n) m)

-- a node is there that is kept, or the key of a pair of a kept one
abbrev pub IsPlaceOfKept : List Node → List Node → ℕ → Type 0
IsPlaceOfKept old new p = (m : ℕ) × (place_of old m ≡ p) × IsKeptOrKey old new m

-- ---- the region

-- what a pause found before its own entry, which is the last one that its pass has seen
abbrev pub found_before : PassView → List PlacedEntry
found_before passed = take (length passed.seen - 1) passed.seen

-- the nodes that the region's strong slots named then
abbrev pub shared_roots : PassView → List ℕ
shared_roots passed = strong_region_targets (slots_of (found_before passed))

-- the owner may pause with the region and this pass, which is the first one: as far as the pass has seen, a collection was started, and
-- each slot that isn't null names a live node and has its place
pub record IsPausable (nodes : List Node) (region : RegionView) (pass : PassView) : Type 0 where
  pub ready : IsPassReady region pass
  pub first : pass.number ≡ 0
  pub started : is_started pass.seen ≡ true
  pub live : AreLive nodes (region_targets (slots_of pass.seen))
  pub placed : IsPlacedBy (place_of nodes) pass.seen

-- the pause found orders of threads behind what its pass had seen, whose passes are out, and made its entry behind these, which clears
-- exactly the weak slots that name one of the dead nodes, as the slots were then; and the pass has seen it all, and has no turn
pub record IsPausedRegion (nodes : List Node) (pass passed : PassView) : Type 0 where
  pub others : List PlacedEntry
  pub outs : All (λ (p : PlacedEntry). Contains pass.out p.entry.thread) others
  pub orders : All (λ (p : PlacedEntry). IsThreadOp p.entry.op) others
  pub before : found_before passed ≡ pass.seen ++ others
  pub seen : passed ≡ seeing pass (history_with_own (pass.seen ++ others) (O.Pause (dying_slots nodes (slots_of (pass.seen ++ others)))) 0)
  pub weak : NamesWeakSlots (dying_slots nodes (slots_of (pass.seen ++ others))) (slots_of (pass.seen ++ others))
  pub legal : IsLegal (entries_of passed.seen)
