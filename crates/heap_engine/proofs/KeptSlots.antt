-- What slots name may be kept while marking goes on, because slots are roots.
use Rattle.std.proofs.Common.{◌≡◌, ℕ, Bool, true, List, ◌++◌, get_or, length, Option, Some, None, option_map, refl, sym, ap, ◌∙◌, subst, inl, inr, arith}
use Rattle.std.specs.List.{Contains}
use Rattle.std.proofs.lemmas.Bool.{cases_lt, true≢false}
use Rattle.std.proofs.lemmas.List.{get_or_past}
use Rattle.std.proofs.lemmas.List.Elements.{Contains-get_or}
use Rattle.gc_graph.specs.declared.kind.Kind.{Kind}
use Rattle.gc_graph.specs.declared.kind.Kind.TheVariants.{Strong, Weak, Pair, Plain}
use Rattle.gc_graph.specs.declared.phase.Phase.{Phase}
use Rattle.gc_graph.specs.declared.phase.Phase.TheVariants.{Idle, Marking, Sweeping}
use Rattle.gc_graph.specs.Fields.{is_reference}
use Rattle.gc_graph.specs.Graph.{has}
use Rattle.gc_graph.specs.State.{State, Node, IsLive, roots_of, slot_targets, stack_targets, strong_region_targets}
use Rattle.gc_graph.specs.Valid.{HasMay}
use Rattle.object_headers.specs.Offsets.{reference_to}
use Rattle.marker_core.specs.Bodies.{holds, place_named}
use Rattle.heap_cycle.specs.Seat.{SeatView}
use Rattle.heap_cycle.specs.Sweeping.{cursor_at}
use Rattle.heap_cycle.specs.Barrier.{MayKeep, MayKeepNamed}
use Rattle.heap_cycle.specs.AmongNodes.{IsAmong, among_left}
use Rattle.heap_cycle.specs.KeptNodes.{root_of_slot}
use Rattle.heap_cycle.specs.Nodes.{place_of}
use Rattle.heap_cycle.specs.Wanted.{Wanted}
use Rattle.heap_cycle.specs.Wanted.TheVariants.{References, Numbers, Pairs}
use Rattle.heap_cycle.specs.Fields.{allows}
use Rattle.heap_cycle.specs.Marks.{HasMarks}
use Rattle.heap_cycle.specs.Objects.{ObjectsView}
use Rattle.heap_cycle.specs.Handles.{slot_word, slot_part}
use Rattle.heap_cycle.specs.declared.parts.Parts.{Parts}
use Rattle.heap_cycle.specs.Parts.{state_of, IsReady}
use Rattle.heap_cycle.specs.Ties.{slot_place, slot_live}
use Rattle.heap_engine.specs.FieldSteps.{IsKeptIn}

-- the words may keep what the graph may keep
kept_at : (phase : Phase) (limit : ℕ) (may : List Bool) (o : ObjectsView) (n : ℕ) → HasMarks phase limit may o → (phase ≡ Marking → has may n ≡ true) → IsLive o.nodes n
    → MayKeep o.seat (place_of o.nodes n)
kept_at Idle limit may o n marks told live on = absurd (true≢false (sym on ∙ marks.0.off))
kept_at Marking limit may o n marks told live on = marks.may_is.same n live ∙ told refl
kept_at Sweeping limit may o n marks told live on = absurd (true≢false (sym on ∙ marks.0.off))

-- and that keeps the roots
root_kept : (s : State) (n : ℕ) → HasMay s.phase s → IsAmong (roots_of s) n → s.phase ≡ Marking → has s.may n ≡ true
root_kept s n kept root on = (subst (λ (phase : Phase). HasMay phase s) on kept).roots n root

slot_holds : (slots : List (Option ℕ)) (p n : ℕ) → get_or slots p None ≡ Some n → Contains slots (Some n)
slot_holds slots p n is =
    elim (cases_lt p (length slots)) [
      | inl low ↦ subst (Contains slots) is (Contains-get_or slots p None low)
      | inr past ↦ (let never : None ≡ Some n = sym (get_or_past slots p None past) ∙ is in cc)
    ]

-- what a slot names may be kept
pub slot_kept : (s : Parts) (p n : ℕ) → IsReady s → get_or s.handles.slots p None ≡ Some n → MayKeep s.objects.seat (place_of s.objects.nodes n)
slot_kept s p n ready slot =
    let root : IsAmong (roots_of (state_of s)) n =
    among_left (slot_targets s.handles.slots ++ stack_targets s.handles.stack.words) (strong_region_targets (state_of s).region) n
    (among_left (slot_targets s.handles.slots) (stack_targets s.handles.stack.words) n (root_of_slot s.handles.slots n (slot_holds s.handles.slots p n slot))) in
    kept_at s.cycle.phase (cursor_at s.objects.shape s.cycle.sweep) s.cycle.rest.may s.objects n ready.tied.marks
    (root_kept (state_of s) n ready.valid.may_kept root) (slot_live s p ready n slot)

named_kept : (v : SeatView) (place : ℕ) → MayKeep v place → MayKeepNamed v (reference_to place)
named_kept v place kept on = inr (subst (λ a. holds v.may a ≡ true) (let same : place ≡ place_named (reference_to place) = omega arith in same) (kept on))

word_kept : (v : SeatView) (nodes : List Node) (slot : Option ℕ) → ((n : ℕ) → slot ≡ Some n → MayKeep v (place_of nodes n)) → MayKeepNamed v (slot_word (option_map (place_of nodes) slot))
word_kept v nodes None kept = λ on. inl refl
word_kept v nodes (Some n) kept = named_kept v (place_of nodes n) (kept n refl)

-- so may what it holds as a word
pub content_kept : (s : Parts) (q w : ℕ) → IsReady s → w ≡ slot_word (get_or s.handles.places q None) → MayKeepNamed s.objects.seat w
content_kept s q w ready is =
    subst (MayKeepNamed s.objects.seat) (sym (is ∙ ap slot_word (slot_place s q ready.tied)))
    (word_kept s.objects.seat s.objects.nodes (get_or s.handles.slots q None) (λ n slot. slot_kept s q n ready slot))

part_word_kept : (v : SeatView) (nodes : List Node) (slot other : Option ℕ) → ((n : ℕ) → slot ≡ Some n → MayKeep v (place_of nodes n))
    → MayKeepNamed v (slot_part (option_map (place_of nodes) slot) (option_map (place_of nodes) other))
part_word_kept v nodes None other kept = λ on. inl refl
part_word_kept v nodes (Some n) None kept = λ on. inl refl
part_word_kept v nodes (Some n) (Some m) kept = named_kept v (place_of nodes n) (kept n refl)

-- or as a part of a pair
pub part_kept : (s : Parts) (q other w : ℕ) → IsReady s → w ≡ slot_part (get_or s.handles.places q None) (get_or s.handles.places other None)
    → MayKeepNamed s.objects.seat w
part_kept s q other w ready is =
    subst (MayKeepNamed s.objects.seat)
    (sym (is ∙ ap (λ place. slot_part place (get_or s.handles.places other None)) (slot_place s q ready.tied)
    ∙ ap (slot_part (option_map (place_of s.objects.nodes) (get_or s.handles.slots q None))) (slot_place s other ready.tied)))
    (part_word_kept s.objects.seat s.objects.nodes (get_or s.handles.slots q None) (get_or s.handles.slots other None) (λ n slot. slot_kept s q n ready slot))

-- ---- a write

no_reference : (kind : Kind) (wanted : Wanted) (v : SeatView) (w : ℕ) → allows wanted kind ≡ true → is_reference kind ≡ true → IsKeptIn wanted v w → MayKeepNamed v w
no_reference kind References v w allowed reference kept = kept
no_reference Strong Numbers v w allowed reference kept = absurd (true≢false (sym allowed))
no_reference Weak Numbers v w allowed reference kept = absurd (true≢false (sym allowed))
no_reference Pair Numbers v w allowed reference kept = absurd (true≢false (sym allowed))
no_reference Plain Numbers v w allowed reference kept = absurd (true≢false (sym reference))
no_reference Strong Pairs v w allowed reference kept = absurd (true≢false (sym allowed))
no_reference Weak Pairs v w allowed reference kept = absurd (true≢false (sym allowed))
no_reference Pair Pairs v w allowed reference kept = absurd (true≢false (sym reference))
no_reference Plain Pairs v w allowed reference kept = absurd (true≢false (sym allowed))

-- what goes into a strong or weak field that is wanted may be kept
pub write_kept : (wanted : Wanted) (kind : Kind) (v : SeatView) (w : ℕ) → allows wanted kind ≡ true → IsKeptIn wanted v w → is_reference kind ≡ true → MayKeepNamed v w
write_kept wanted kind v w allowed kept reference = no_reference kind wanted v w allowed reference kept
