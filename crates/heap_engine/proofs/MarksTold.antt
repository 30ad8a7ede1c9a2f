-- What the lines of a cycle's start and of its last step tell of marks.
use Rattle.std.proofs.Common.{◌≡◌, ℕ, ◌<◌, length, Bool, true, false, List, [], ◌∷◌, ◌++◌, Option, Some, option_map, refl, sym, ap, ◌∙◌, subst, inl, inr, arith}
use Rattle.std.specs.Prelude.{MatchBool}
use Rattle.std.specs.List.{Contains}
use Rattle.std.proofs.lemmas.Bool.{cases_Bool, true≢false}
use Rattle.std.proofs.lemmas.List.Elements.{All-contains}
use Rattle.gc_graph.specs.declared.line.Line.{Line}
use Rattle.gc_graph.specs.declared.line.Line.TheVariants as L
use Rattle.gc_graph.specs.declared.phase.Phase.{Phase}
use Rattle.gc_graph.specs.declared.phase.Phase.TheVariants.{Idle, Marking, Sweeping}
use Rattle.gc_graph.specs.CycleSteps.{StepGcStep, is_marking}
use Rattle.gc_graph.specs.Graph.{IsWithin}
use Rattle.gc_graph.specs.Members.{Contains-cons_cases, Contains-map, in_from_holds}
use Rattle.gc_graph.specs.Outcomes.{finalise_lines}
use Rattle.gc_graph.specs.Reach.{HoldsAll}
use Rattle.gc_graph.specs.State.{State, Node, IsLive, slot_targets, strong_region_targets, RegionSlot}
use Rattle.gc_graph.specs.Valid.{AreLive, IsValid, region_targets}
use Rattle.cross_thread_region.specs.declared.chronicle.PlacedEntry.{PlacedEntry}
use Rattle.cross_thread_region.specs.PlacedNodes.{strong_target_placed, strong_target_is_target}
use Rattle.marker_core.specs.Bodies.{holds}
use Rattle.heap_cycle.specs.Sweeping.{cursor_at}
use Rattle.heap_cycle.specs.AmongNodes.{among_cases}
use Rattle.heap_cycle.specs.KeptNodes.{slot_of_root, slot_node_live, kept_parts, kept_from}
use Rattle.heap_cycle.specs.Nodes.{place_of}
use Rattle.heap_cycle.specs.PlacesInWords.{kept_of}
use Rattle.heap_cycle.specs.Marks.{HasMarks, HasMarking, IsOut}
use Rattle.heap_cycle.specs.Notes.{note_of}
use Rattle.heap_cycle.specs.Objects.{ObjectsView, refusals_told_of}
use Rattle.heap_cycle.specs.declared.parts.Parts.{Parts}
use Rattle.heap_cycle.specs.Cycles.{AreSlotsMarked, IsNoneGrey, HasNoRefusedNote, HasNoRefusedPush}
use Rattle.heap_cycle.specs.KeptRoots.{marking_of}
use Rattle.heap_cycle.specs.Parts.{setup_of, state_of, AreTied, IsManned, IsReady}
use Rattle.heap_cycle.specs.Views.{Ran}
use Rattle.heap_cycle.specs.Printed.{Printed, all_ran, ran_lines, lines_with}
use Rattle.heap_cycle.specs.Region.{HasRegion}
use Rattle.heap_cycle.specs.Pages.{word_count}
use Rattle.heap_engine.specs.Acted.{IsDealtWith}
use Rattle.heap_engine.specs.Sound.{items_of}

-- ---- which line tells it

no_callback_starts : (weak prefinalised : List (ℕ × ℕ)) → Contains (all_ran (record { weak = weak; prefinalised = prefinalised })) L.Started → ⊥
no_callback_starts [] [] there = omega (arith, there.1)
no_callback_starts [] (r ∷ prefinalised) there =
    elim (Contains-cons_cases (L.Prefinalise r.0 r.1) (all_ran (record { weak = []; prefinalised = prefinalised })) L.Started there) [
      | inl here ↦ cc
      | inr later ↦ no_callback_starts [] prefinalised later
    ]
no_callback_starts (r ∷ weak) prefinalised there =
    elim (Contains-cons_cases (L.WeakCall r.0 r.1) (all_ran (record { weak = weak; prefinalised = prefinalised })) L.Started there) [
      | inl here ↦ cc
      | inr later ↦ no_callback_starts weak prefinalised later
    ]

none_started : (runs : Bool) (ran : Ran) → Contains (ran_lines runs ran) L.Started → ⊥
none_started false ran there = omega (arith, there.1)
none_started true ran there = no_callback_starts ran.weak ran.prefinalised there

started_after : (numbers : List ℕ) (line : Line) (others : List Line) → (Contains others L.Started → ⊥) → Contains (finalise_lines numbers ++ line ∷ others) L.Started → line ≡ L.Started
started_after [] line others none there = elim (Contains-cons_cases line others L.Started there) [ inl here ↦ here | inr later ↦ absurd (none later) ]
started_after (n ∷ numbers) line others none there =
    elim (Contains-cons_cases (L.Finalise n) (finalise_lines numbers ++ line ∷ others) L.Started there) [
      | inl here ↦ cc
      | inr later ↦ started_after numbers line others none later
    ]

-- the line of a command is the start that its lines tell
pub started_last : (o : Printed) (ran : Ran) (line : Line) → Contains (lines_with o ran line) L.Started → line ≡ L.Started
started_last o ran line there = started_after o.numbers line (ran_lines o.calls_back ran) (none_started o.calls_back ran) there

stepped_after : (numbers : List ℕ) (last : Line) (others : List Line) (t : ℕ) (done : Bool) → finalise_lines numbers ++ last ∷ others ≡ L.Step t done ∷ [] → last ≡ L.Step t done
stepped_after [] last others t done is = cc
stepped_after (n ∷ numbers) last others t done is = cc

-- and the step
pub stepped_last : (o : Printed) (ran : Ran) (line : Line) (t : ℕ) (done : Bool) → lines_with o ran line ≡ L.Step t done ∷ [] → line ≡ L.Step t done
stepped_last o ran line t done is = stepped_after o.numbers line (ran_lines o.calls_back ran) t done is

-- ---- a start

-- what the strong slots name is marked, as the heap's callers see it
slots_marked : (s : Parts) (history : List PlacedEntry) → AreTied s → AreLive s.objects.nodes (slot_targets s.handles.slots) → AreSlotsMarked s history
    → HoldsAll (kept_of (holds s.objects.seat.marked) s.objects.nodes) (slot_targets s.handles.slots)
slots_marked s history tied live marked n root =
    let nodes : List Node = s.objects.nodes in
    let slot : Contains s.handles.slots (Some n) = slot_of_root s.handles.slots n root in
    let place : Contains s.handles.places (Some (place_of nodes n)) =
    subst (λ places. Contains places (Some (place_of nodes n))) (sym tied.slots)
    (Contains-map (λ (x : Option ℕ). option_map (place_of nodes) x) s.handles.slots (Some n) slot) in
    kept_from (holds s.objects.seat.marked) nodes n (slot_node_live nodes s.handles.slots n live slot) (marked.slots (place_of nodes n) place)

-- and so is what the region's do
shared_marked : (s : Parts) → HasRegion s → AreLive s.objects.nodes (region_targets (state_of s).region) → AreSlotsMarked s s.region.taken
    → HoldsAll (kept_of (holds s.objects.seat.marked) s.objects.nodes) (strong_region_targets (state_of s).region)
shared_marked s region live marked n root =
    let nodes : List Node = s.objects.nodes in
    let slots : List RegionSlot = (state_of s).region in
    let strong : Contains (strong_region_targets slots) n = in_from_holds (strong_region_targets slots) n root in
    let slot = strong_target_placed (place_of nodes) s.region.taken n region.placed strong in
    kept_from (holds s.objects.seat.marked) nodes n
    (All-contains (IsLive nodes) (region_targets slots) n live (strong_target_is_target slots n strong)) (marked.shared slot.0 (place_of nodes n) slot.1)

pub roots_marked : (s : Parts) → AreTied s → IsValid (setup_of s) (state_of s) → HasRegion s → AreSlotsMarked s s.region.taken
    → HoldsAll (kept_of (holds s.objects.seat.marked) s.objects.nodes) (slot_targets s.handles.slots ++ strong_region_targets (state_of s).region)
roots_marked s tied valid region marked n root =
    elim (among_cases (slot_targets s.handles.slots) (strong_region_targets (state_of s).region) n root) [
      | inl slot ↦ slots_marked s s.region.taken tied valid.slots marked n slot
      | inr shared ↦ shared_marked s region valid.region marked n shared
    ]

-- ---- a step

open_at : (phase : Phase) (Refused Traced : Type 0) → MatchBool (is_marking phase) Traced Refused → (Refused → ⊥) → (phase ≡ Marking) × Traced
open_at Idle Refused Traced is never = absurd (never is)
open_at Marking Refused Traced is never = (refl, is)
open_at Sweeping Refused Traced is never = absurd (never is)

-- before it marking went on
pub was_marking : (old : State) (n t : ℕ) (done : Bool) (new : State) → StepGcStep old n (L.Step t done ∷ []) new → old.phase ≡ Marking
was_marking old n t done new is = (open_at old.phase _ _ is (λ why. (let never : L.Step t done ∷ [] ≡ L.Refused _ ∷ [] = why.0 in cc))).0

-- and after it it goes on
pub still_marking : (old : State) (n t : ℕ) (done : Bool) (new : State) → StepGcStep old n (L.Step t done ∷ []) new → new.phase ≡ Marking
still_marking old n t done new is =
    let goes = open_at old.phase _ _ is (λ why. (let never : L.Step t done ∷ [] ≡ L.Refused _ ∷ [] = why.0 in cc)) in
    ap (λ (s : State). s.phase) goes.1.after ∙ goes.0

unrefused : (s : Parts) → AreTied s → s.cycle.phase ≡ Marking → HasNoRefusedPush (refusals_told_of s.objects) → s.objects.grey.marking.overflow ≡ false
unrefused s tied on none =
    let has : HasMarking s.cycle.rest.may s.objects =
    subst (λ (phase : Phase). HasMarks phase (cursor_at s.objects.shape s.cycle.sweep) s.cycle.rest.may s.objects) on tied.marks in
    elim (cases_Bool s.objects.grey.marking.overflow) [
      | inl told ↦ elim (has.pushes_told.only told) [
        | inl before ↦ absurd (true≢false (sym before))
        | inr count ↦ elim count [ inl more ↦ absurd (omega (arith, more, none.same)) | inr last ↦ absurd (omega (arith, last, none.seen)) ]
      ]
      | inr calm ↦ calm
    ]

-- where no push was refused, each marked node is traced once a step tells that it is done
pub all_traced : (s : Parts) → AreTied s → s.cycle.phase ≡ Marking → IsNoneGrey s → HasNoRefusedPush (refusals_told_of s.objects)
    → IsWithin (kept_of (holds s.objects.seat.marked) s.objects.nodes) (kept_of (holds s.objects.seat.traced) s.objects.nodes)
all_traced s tied on grey none n marked =
    let is = kept_parts (holds s.objects.seat.marked) s.objects.nodes n marked in
    kept_from (holds s.objects.seat.traced) s.objects.nodes n is.0 (grey (unrefused s tied on none) (place_of s.objects.nodes n) is.1)

-- ---- the markers that run

-- while marking goes on a seat is lent for each of the heap's
pub all_lent : (s : Parts) → IsReady s → IsManned s → s.cycle.phase ≡ Marking → s.objects.seat.lent ≡ s.objects.grey.markers
all_lent s ready manned marking = (marking_of s ready marking).crew.lent ∙ manned marking

-- and where it has some, some run
pub some_run : (s : Parts) → IsManned s → s.cycle.phase ≡ Marking → 0 < s.objects.grey.markers → 0 < length s.objects.grey.running
some_run s manned marking some = omega (arith, some, manned marking)

-- no note was refused where none is counted
unrefused_notes : (may : List Bool) (o : ObjectsView) → HasMarking may o → HasNoRefusedNote (refusals_told_of o) → o.grey.notes.overflow ≡ false
unrefused_notes may o has none = elim (cases_Bool o.grey.notes.overflow) [
  | inl told ↦ elim (has.notes_told.only told) [
    | inl before ↦ absurd (true≢false (sym before))
    | inr count ↦ elim count [ inl more ↦ absurd (omega (arith, more, none.same)) | inr last ↦ absurd (omega (arith, last, none.seen)) ]
  ]
  | inr calm ↦ calm
]

-- then each item that the owner took beside markers is dealt with
pub items_dealt : (s : Parts) → IsReady s → IsManned s → s.objects.seat.count ≡ word_count s.objects.shape → s.cycle.phase ≡ Marking → 0 < s.objects.grey.markers
    → HasNoRefusedNote (refusals_told_of s.objects) → (p : ℕ) → Contains (items_of s.objects.seat s.objects.grey).taken p
    → IsDealtWith (items_of s.objects.seat s.objects.grey) (word_count s.objects.shape) p
items_dealt s ready manned words marking some none p took =
    let has : HasMarking s.cycle.rest.may s.objects = marking_of s ready marking in
    let out : IsOut s.objects.seat s.objects.grey = has.crew.out (some_run s manned marking some) in
    elim (out.taken (unrefused_notes s.cycle.rest.may s.objects has none) p took) [
      | inl traced ↦ inl (in_from_holds s.objects.seat.traced p traced)
      | inr other ↦ inr (elim other [
        | inl found ↦ inl found
        | inr note ↦ inr (note, elim (out.lone (note_of p 0) note refl).1 [ inl missed ↦ inl missed | inr far ↦ inr (omega (arith, far, words)) ])
      ])
    ]
