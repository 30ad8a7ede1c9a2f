-- The region through a pause.
use Rattle.std.proofs.Common.{◌≡◌, ℕ, ◌-◌, Bool, not, List, [], ◌∷◌, ◌++◌, length, take, All, Some, None, arith, sym, ap, ◌∙◌, subst}
use Rattle.std.proofs.Math.Seq.{take-append_seam}
use Rattle.std.proofs.lemmas.List.{length-append}
use Rattle.std.proofs.lemmas.List.Elements.{All-contains}
use Rattle.gc_graph.specs.declared.region.Op.TheVariants as O
use Rattle.gc_graph.specs.State.{Node, node_at, is_dead, IsLive}
use Rattle.gc_graph.specs.Valid.{AreLive, region_targets}
use Rattle.gc_graph.specs.History.{region_slot, node_of, IsLegal, NamesWeakSlots}
use Rattle.gc_graph.specs.Pause.{dying_slots, is_dead_at}
use Rattle.gc_graph.specs.Outcomes.{IsThreadOp}
use Rattle.gc_graph.specs.ActionLaw.{HaveStayed}
use Rattle.marker_core.specs.Bodies.{IsPlace, holds}
use Rattle.page_words.specs.Seat.{SeatView}
use Rattle.cross_thread_region.specs.declared.chronicle.PlacedEntry.{PlacedEntry}
use Rattle.cross_thread_region.specs.Histories.{entries_of, slots_of, strong_place, weak_place, IsPlacedBy}
use Rattle.cross_thread_region.specs.Calls.{RegionView, PassView, HeldView, Continues, Finds, with_turn, after_turn, seeing, history_with_own, placed_entry_of}
use Rattle.cross_thread_region.specs.OrdersStay.{live_after, placed_after, rest_orders}
use Rattle.cross_thread_region.specs.Pauses.{history_paused, dying_of}
use Rattle.cross_thread_region.specs.PlacedNodes.{named_is_target, strong_slot_of, weak_slot_of}
use Rattle.cross_thread_region.specs.DyingSlots.{dying_are_dead}
use Rattle.prefinalizer_effects.specs.Nodes.{place_of, body_of, IsHeld}
use Rattle.prefinalizer_effects.specs.PlacesInWords.{kept_of}
use Rattle.prefinalizer_effects.specs.Judgement.{nodes_after}
use Rattle.prefinalizer_effects.specs.NodePlaces.{live_is_there, node_body}
use Rattle.prefinalizer_effects.specs.WeakNodes.{life-after}
use Rattle.atomic_pause.specs.Pausing.{IsPausable, IsPausedRegion, found_before}
use Rattle.atomic_pause.proofs.WeakJudged.{tells_unmarked}

-- ---- what the pause finds

-- each slot that isn't null after the history names a live node, and has its place
pub record NamesLive (nodes : List Node) (history : List PlacedEntry) : Type 0 where
  pub live : AreLive nodes (region_targets (slots_of history))
  pub placed : IsPlacedBy (place_of nodes) history

-- what a pause finds is so, as threads' orders leave it so
pub found_live : (nodes : List Node) (region : RegionView) (pass : PassView) (history : List PlacedEntry) → IsPausable nodes region pass → Finds pass history → NamesLive nodes history
found_live nodes region pass history may finds =
    let found : Continues pass history = finds.goes_on in
    let orders : All (λ (p : PlacedEntry). IsThreadOp p.entry.op) found.rest = rest_orders pass history found may.first finds.right in
    subst (NamesLive nodes) (sym found.all) (record {
      live = live_after nodes (place_of nodes) pass.seen found.rest may.live may.placed orders;
      placed = placed_after nodes (place_of nodes) pass.seen found.rest may.live may.placed orders;
    })

-- what the pass has seen ends with the pause's entry
pub before_own : (history : List PlacedEntry) (placed : PlacedEntry) (passed : PassView) → passed.seen ≡ history ++ placed ∷ [] → found_before passed ≡ history
before_own history placed passed is =
    let count : length (history ++ placed ∷ []) - 1 ≡ length history = omega (arith, length-append history (placed ∷ [])) in
    ap (λ (l : List PlacedEntry). take (length l - 1) l) is ∙ ap (λ n. take n (history ++ placed ∷ [])) count ∙ take-append_seam history (placed ∷ [])

-- ---- the places of slots

-- a slot that isn't null names a live node
slot_lives : (nodes : List Node) (history : List PlacedEntry) (x n : ℕ) → NamesLive nodes history → node_of (region_slot (slots_of history) x) ≡ Some n → IsLive nodes n
slot_lives nodes history x n names is =
    All-contains (IsLive nodes) (region_targets (slots_of history)) n names.live (named_is_target (slots_of history) x n is)

live_place : (nodes : List Node) (v : SeatView) (n p : ℕ) → IsHeld nodes v → IsLive nodes n → place_of nodes n ≡ p → IsPlace v.bodies p
live_place nodes v n p held live is = (body_of (place_of nodes) n (node_at nodes n), node_body nodes v n held.bodies (live_is_there nodes n live), is)

-- the place of a strong slot is that of a body
pub shared_place : (nodes : List Node) (history : List PlacedEntry) (v : SeatView) (x p : ℕ) → NamesLive nodes history → IsHeld nodes v → strong_place history x ≡ Some p
    → IsPlace v.bodies p
shared_place nodes history v x p names held is =
    let w = strong_slot_of history x p is in
    live_place nodes v w.0 p held (slot_lives nodes history x w.0 names (ap node_of w.1)) (sym (names.placed x w.0 (ap node_of w.1)) ∙ w.2)

-- and so is that of a weak slot
pub weak_is_place : (nodes : List Node) (history : List PlacedEntry) (v : SeatView) (x p : ℕ) → NamesLive nodes history → IsHeld nodes v → weak_place history x ≡ Some p
    → IsPlace v.bodies p
weak_is_place nodes history v x p names held is =
    let w = weak_slot_of history x p is in
    live_place nodes v w.0 p held (slot_lives nodes history x w.0 names (ap node_of w.1)) (sym (names.placed x w.0 (ap node_of w.1)) ∙ w.2)

-- ---- the slots that are cleared

-- the slots whose object isn't marked (y, and so z) are those that name a node that is dead at the end
pub cleared_are_dead : (nodes new : List Node) (y z : SeatView) (history : List PlacedEntry) → NamesLive nodes history
    → HaveStayed (nodes_after (kept_of (holds y.marked) nodes) nodes) new → z.marked ≡ y.marked
    → dying_of (λ a. not (holds z.marked a)) history ≡ dying_slots new (slots_of history)
cleared_are_dead nodes new y z history names stayed marks =
    ap (λ ms. dying_of (λ a. not (holds ms a)) history) marks
    ∙ dying_are_dead (λ a. not (holds y.marked a)) (is_dead_at new) history (λ x n is.
    let kept : List Bool = kept_of (holds y.marked) nodes in
    let named : node_of (region_slot (slots_of history) x) ≡ Some n = ap node_of is in
    ap (λ p. not (holds y.marked p)) (names.placed x n named)
    ∙ sym (ap is_dead (stayed.life n ∙ life-after kept nodes n) ∙ tells_unmarked nodes y n (slot_lives nodes history x n names named)))

-- ---- the pause's entry

-- the history with the pause's entry, where these are the nodes after the pause
abbrev with_pause : List Node → List PlacedEntry → List PlacedEntry
with_pause nodes history = history_with_own history (O.Pause (dying_slots nodes (slots_of history))) 0

-- the pass (same) had the turn in which this was held, and has given it back (passed)
pub region_paused : (new : List Node) (held : HeldView) (mask : ℕ) (pass same passed : PassView) → Finds pass held.history → pass.number ≡ 0 → pass.turn ≡ None
    → mask ≡ dying_slots new (slots_of held.history) → same ≡ with_turn pass held → passed ≡ after_turn same (history_paused held.history mask)
    → IsLegal (entries_of passed.seen) → NamesWeakSlots mask (slots_of held.history) → IsPausedRegion new pass passed
region_paused new held mask pass same passed finds first free cleared taken given legal_so weak_so =
    let history : List PlacedEntry = held.history in
    let found : Continues pass history = finds.goes_on in
    let back : passed ≡ after_turn pass (with_pause new history) =
    given ∙ ap (λ (s : PassView). after_turn s (history_paused history mask)) taken ∙ ap (λ k. after_turn pass (history_paused history k)) cleared in
    let seen_is : passed ≡ seeing pass (with_pause new history) =
    back ∙ sym (ap (λ t. record pass { seen = with_pause new history; turn = t }) free) in
    record {
      others = found.rest;
      outs = found.outs first;
      orders = rest_orders pass history found first finds.right;
      before = before_own history (placed_entry_of 0 history (O.Pause (dying_slots new (slots_of history))) 0) passed (ap (λ (s : PassView). s.seen) seen_is) ∙ found.all;
      seen = seen_is ∙ ap (λ h. seeing pass (with_pause new h)) found.all;
      weak = subst (λ h. NamesWeakSlots (dying_slots new (slots_of h)) (slots_of h)) found.all (subst (λ k. NamesWeakSlots k (slots_of history)) cleared weak_so);
      legal = legal_so;
    }
