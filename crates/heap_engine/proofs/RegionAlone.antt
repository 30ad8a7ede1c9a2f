-- The region beside a command: its history goes on from what it was, and where the command makes no entry it is still the heap's.
use Rattle.std.proofs.Common.{◌≡◌, ◌<◌, List, [], ◌++◌, length, drop, sym, ap, ◌∙◌, subst}
use Rattle.std.proofs.Math.Seq.{drop-length}
use Rattle.std.proofs.lemmas.List.{map-append, take-append-drop}
use Rattle.std.proofs.lemmas.List.Elements.{All-contains}
use Rattle.gc_graph.specs.declared.command.Command.{Command}
use Rattle.gc_graph.specs.declared.line.Line.{Line}
use Rattle.gc_graph.specs.HistoryLaw.{StepsFollow, Follows}
use Rattle.gc_graph.specs.Lawful.{IsAllowed}
use Rattle.gc_graph.specs.NodeNumbers.{live_below}
use Rattle.gc_graph.specs.OnceLaw.{NodesStayPut, StayPut}
use Rattle.gc_graph.specs.Outcomes.{answered}
use Rattle.gc_graph.specs.State.{IsLive}
use Rattle.gc_graph.specs.Step.{Step}
use Rattle.gc_graph.specs.Valid.{AreLive, region_targets}
use Rattle.cross_thread_region.specs.declared.chronicle.PlacedEntry.{PlacedEntry}
use Rattle.cross_thread_region.specs.Calls.{Begins}
use Rattle.cross_thread_region.specs.Histories.{entries_of, is_started, slots_of, IsPlacedBy}
use Rattle.cross_thread_region.specs.PlacedNodes.{placed_as}
use Rattle.heap_cycle.specs.Nodes.{place_of}
use Rattle.heap_cycle.specs.declared.parts.Parts.{Parts}
use Rattle.heap_cycle.specs.Parts.{setup_of, state_of, IsReady}
use Rattle.heap_cycle.specs.Owned.{OwnedView}
use Rattle.heap_cycle.specs.Region.{HasRegion}

-- ---- the history

-- no entry was made where the history is the same
pub none_made : (history : List PlacedEntry) → entries_of (drop (length history) history) ≡ []
none_made history = ap entries_of (drop-length history)

-- what was made comes behind what was there
pub made_behind : (before after : List PlacedEntry) → Begins before after → entries_of after ≡ entries_of before ++ entries_of (drop (length before) after)
made_behind before after begins =
    ap entries_of (sym (take-append-drop (length before) after) ∙ ap (λ first. first ++ drop (length before) after) begins)
    ∙ map-append (λ (placed : PlacedEntry). placed.entry) before (drop (length before) after)

-- ---- a command that makes no entry

-- the region still belongs to the parts after it
pub region_alone : (s new : Parts) (command : Command) (lines : List Line) → StepsFollow → NodesStayPut → 0 < s.objects.shape.pages
    → IsAllowed (length s.objects.types) command → IsReady s → HasRegion s → new.region ≡ s.region → Step (setup_of s) (state_of s) command [] lines (answered (state_of new)) → HasRegion new
region_alone s new command lines follow stay some allowed ready region same is =
    let follows : Follows (state_of s) [] (answered (state_of new)) = follow (setup_of s) (state_of s) command [] lines (answered (state_of new)) is in
    let put : StayPut s.objects.nodes new.objects.nodes =
    stay (setup_of s) (state_of s) command [] lines (answered (state_of new)) some allowed ready.valid is in
    let live : AreLive s.objects.nodes (region_targets (slots_of s.region.taken)) = ready.valid.region in
    record {
      opened = ap (λ (v : OwnedView). v.closed) same ∙ region.opened;
      placed = subst (λ (v : OwnedView). IsPlacedBy (place_of new.objects.nodes) v.taken) (sym same)
          (placed_as (place_of s.objects.nodes) (place_of new.objects.nodes) s.region.taken
          (λ n named. put.places n (live_below s.objects.nodes n (All-contains (IsLive s.objects.nodes) (region_targets (slots_of s.region.taken)) n live named))) region.placed);
      started = ap (λ (v : OwnedView). is_started v.taken) same ∙ region.started ∙ sym follows.started;
    }
