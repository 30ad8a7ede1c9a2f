-- While marking goes on, the objects that roots name may be kept. Lemmas that the crate above cites too, since a crate's proofs/
-- can't be cited from another.
use Rattle.std.proofs.Common.{◌≡◌, ℕ, true, List, Option, Some, ◌∙◌, subst, Contains}
use Rattle.gc_graph.specs.declared.phase.Phase.TheVariants.{Marking}
use Rattle.gc_graph.specs.State.{IsLive, roots_of, slot_targets, stack_targets, strong_region_targets}
use Rattle.gc_graph.specs.Valid.{IsMay, HasMay}
use Rattle.marker_core.specs.Bodies.{holds}
use Rattle.heap_roots.specs.Sweeping.{cursor_at}
use Rattle.heap_roots.specs.AmongNodes.{IsAmong, among_left}
use Rattle.heap_roots.specs.KeptNodes.{place_slot, root_of_slot, slot_node_live}
use Rattle.heap_roots.specs.Nodes.{place_of}
use Rattle.heap_roots.specs.Marks.{HasMarking, HasMarks}
use Rattle.heap_cycle.specs.declared.parts.Parts.{Parts}
use Rattle.heap_cycle.specs.Parts.{state_of, IsReady}

-- where parts are ready and in the phase of marking, marking is under way in their objects, with what may be kept
pub marking_of : (s : Parts) → IsReady s → s.cycle.phase ≡ Marking → HasMarking s.cycle.rest.may s.objects
marking_of s ready marking =
    subst (λ ph. HasMarks ph (cursor_at s.objects.shape s.cycle.sweep) s.cycle.rest.may s.objects) marking ready.tied.marks

pub may_of : (s : Parts) → IsReady s → s.cycle.phase ≡ Marking → IsMay (state_of s)
may_of s ready marking = subst (λ ph. HasMay ph (state_of s)) marking ready.valid.may_kept

-- what a root names may be kept
pub root_kept : (s : Parts) (n : ℕ) → IsReady s → s.cycle.phase ≡ Marking → IsAmong (roots_of (state_of s)) n → IsLive s.objects.nodes n
    → holds s.objects.seat.may (place_of s.objects.nodes n) ≡ true
root_kept s n ready marking root live = (marking_of s ready marking).may_is.same n live ∙ (may_of s ready marking).roots n root

-- and so may what the strong slots name
pub slots_kept : (s : Parts) (p : ℕ) → IsReady s → s.cycle.phase ≡ Marking → Contains s.handles.places (Some p) → holds s.objects.seat.may p ≡ true
slots_kept s p ready marking there =
    let slots : List (Option ℕ) = s.handles.slots in
    let named = place_slot s.objects.nodes slots p (subst (λ l. Contains l (Some p)) ready.tied.slots there) in
    let owned : List ℕ = stack_targets s.handles.stack.words in
    subst (λ q. holds s.objects.seat.may q ≡ true) named.2
    (root_kept s named.0 ready marking
    (among_left _ (strong_region_targets (state_of s).region) named.0 (among_left (slot_targets slots) owned named.0 (root_of_slot slots named.0 named.1)))
    (slot_node_live s.objects.nodes slots named.0 ready.valid.slots named.1))
