-- The pause of a cycle: its entry, the state just before it, and the state after it.
use Rattle.std.proofs.Common.{◌≡◌, ℕ, ◌+◌, Bool, false, not, List, [], ◌∷◌, ◌++◌, filter, Option, Some, None, map, cond, refl, sym, ap, ◌∙◌}
use Rattle.std.proofs.lemmas.List.{append_assoc, map-append}
use Rattle.gc_graph.specs.declared.command.Want.{Want}
use Rattle.gc_graph.specs.declared.phase.Phase.{Phase}
use Rattle.gc_graph.specs.declared.phase.Phase.TheVariants.{Marking, Sweeping}
use Rattle.gc_graph.specs.declared.region.Entry.{Entry}
use Rattle.gc_graph.specs.declared.region.Op.TheVariants as O
use Rattle.gc_graph.specs.State.{State, Node, node_at, size_of, is_dead, IsLive, RegionSlot, Registration, slot_targets, strong_region_targets}
use Rattle.gc_graph.specs.State.RegionSlot.{Vacant, StrongTo, WeakTo}
use Rattle.gc_graph.specs.May.{members}
use Rattle.gc_graph.specs.History.{region_after, replayed, weak_target}
use Rattle.gc_graph.specs.Pause.{condemn, dies, clear_slot, is_dead_at, names_dead_node, mask_of, dying_slots, live_count, dead_count}
use Rattle.gc_graph.specs.Paused.{entry_of_pause, paused}
use Rattle.gc_graph.specs.Outcomes.{owner_entry, took}
use Rattle.gc_graph.specs.Replays.{replayed-append}
use Rattle.gc_graph.specs.CycleSteps.{is_stack_refused}
use Rattle.callback_table.specs.Registry.{RegistryView, registrations_of}
use Rattle.callback_table.specs.WeakRegistry.{WeakRegistryView}
use Rattle.cross_thread_region.specs.declared.chronicle.PlacedEntry.{PlacedEntry}
use Rattle.cross_thread_region.specs.Histories.{entries_of, slots_of}
use Rattle.cross_thread_region.specs.OrdersStay.{slots_on}
use Rattle.heap_roots.specs.Calls.{HasPauseEntry}
use Rattle.heap_roots.specs.Finished.{Finished}
use Rattle.heap_roots.specs.Handles.{HandlesView}
use Rattle.heap_roots.specs.Judgement.{nodes_after}
use Rattle.heap_roots.specs.Marks.{ObjectsAreAtRest}
use Rattle.heap_roots.specs.Objects.{ObjectsView, setup_of_objects, refused_of}
use Rattle.heap_roots.specs.Owned.{OwnedView, found_of, piece_of, untold_of, with_region}
use Rattle.heap_roots.specs.Pausing.{IsPaused, called_back, hits_in}
use Rattle.heap_roots.specs.PlacesInWords.{places_of_slots, BodiesAreJudged}
use Rattle.heap_roots.specs.Refused.{IsToldTruly}
use Rattle.heap_roots.specs.Stack.{is_precise}
use Rattle.heap_roots.specs.WeakNodes.{life-after}
use Rattle.heap_cycle.specs.declared.parts.Parts.{Parts}
use Rattle.heap_cycle.specs.Changes.{paused_from, with_taken}
use Rattle.heap_cycle.specs.Parts.{moment_of, setup_of, state_of, IsReady}
use Rattle.heap_cycle.specs.Region.{HasRegion}
use Rattle.heap_cycle.specs.Registrations.{registrations_left}
use Rattle.heap_roots.specs.Took.{took_append, took_is}
use Rattle.heap_cycle.specs.Views.{CycleView}
use Rattle.heap_cycle.proofs.Pieces.{GoesOn, found_is, goes_on, others_of, own, piece_is, state_on}

-- the weak slots that name a condemned node are null
abbrev weak_after : List Bool → List Node → List (Option ℕ) → List (Option ℕ)
weak_after kept nodes weak = map (clear_slot (is_dead_at (condemn kept nodes))) weak

-- the weak slots that are left
clear_agree : (f g : ℕ → Bool) (slots : List (Option ℕ)) → ((n : ℕ) → f n ≡ g n) → map (clear_slot f) slots ≡ map (clear_slot g) slots
clear_agree f g [] same = refl
clear_agree f g (None ∷ slots) same = ap (λ l. None ∷ l) (clear_agree f g slots same)
clear_agree f g (Some n ∷ slots) same =
    ap (λ b. cond b None (Some n) ∷ map (clear_slot f) slots) (same n) ∙ ap (λ l. clear_slot g (Some n) ∷ l) (clear_agree f g slots same)

-- the region's slots that are cleared
dying_agree : (a b : List Node) (region : List RegionSlot) → ((n : ℕ) → is_dead_at a n ≡ is_dead_at b n) → dying_slots a region ≡ dying_slots b region
dying_agree a b region same = ap mask_of (named_agree region) where
  named_agree : (region : List RegionSlot)
      → map (λ slot. names_dead_node (is_dead_at a) (weak_target slot)) region ≡ map (λ slot. names_dead_node (is_dead_at b) (weak_target slot)) region
  named_agree [] = refl
  named_agree (Vacant ∷ region) = ap (λ l. false ∷ l) (named_agree region)
  named_agree (StrongTo n ∷ region) = ap (λ l. false ∷ l) (named_agree region)
  named_agree (WeakTo n ∷ region) =
      ap (λ d. d ∷ map (λ slot. names_dead_node (is_dead_at a) (weak_target slot)) region) (same n) ∙ ap (λ l. is_dead_at b n ∷ l) (named_agree region)

-- the registered prefinalizers
abbrev pub registry_of : CycleView → RegistryView
registry_of c = record { entries = c.registered; ran = c.ran.prefinalised }

-- the registered weak callbacks
abbrev pub weak_registry_of : CycleView → WeakRegistryView
weak_registry_of c = record { entries = c.weakly; ran = c.ran.weak }

-- from the parts of an open cycle to those after its pause, at which so many markers run
pub record Pauses (markers : ℕ) (want : Want) (s : Parts) (new : ObjectsView) (left : HandlesView) (after : CycleView) (r : OwnedView) (result : Finished) : Type 0 where
  pub ready : IsReady s
  pub marking : s.cycle.phase ≡ Marking
  pub region : HasRegion s
  pub entry : HasPauseEntry new.nodes s.region r
  pub allowed : is_stack_refused want s.handles.stack.words ≡ false
  pub setup : setup_of_objects new ≡ setup_of s
  pub paused : IsPaused s.objects.callbacks s.objects.types
      (slot_targets s.handles.slots ++ strong_region_targets (slots_of (found_of r)) ++ hits_in (is_precise want) s.objects.nodes s.handles.stack.addresses)
      (members s.cycle.rest.may ++ strong_region_targets (slots_of (found_of r)) ++ hits_in (is_precise want) s.objects.nodes s.handles.stack.addresses)
      s.objects.nodes new.nodes (registry_of s.cycle) (registry_of after) (weak_registry_of after)
  pub sizes : (n : ℕ) → IsLive s.objects.nodes n → size_of (node_at new.nodes n) ≡ size_of (node_at s.objects.nodes n)
  pub handles_left : left ≡ record s.handles { weak_places = places_of_slots new.nodes left.weak; weak = map (clear_slot (is_dead_at new.nodes)) s.handles.weak }
  pub rests : ObjectsAreAtRest new
  pub judged_marks : BodiesAreJudged new.seat
  pub phase : after.phase ≡ Sweeping
  pub sweep : after.sweep ≡ record s.cycle.sweep { cursor = 0 }
  pub rest : after.rest ≡ paused_from (with_taken (moment_of s) r.taken s.cycle.rest)
  pub kept_is : result.pause.kept ≡ live_count new.nodes
  pub dead_is : result.pause.dead ≡ dead_count new.nodes
  pub traced_is : s.objects.grey.traced + result.crew + result.pause.traced ≡ result.pause.kept
  pub crew_is : markers ≡ 0 → result.crew ≡ 0
  pub kept_traced : new.grey.traced ≡ s.objects.grey.traced
  pub walked : IsToldTruly s.objects.grey.since (refused_of new) result.pause.walked

module _ (markers : ℕ) (want : Want) (s : Parts) (new : ObjectsView) (left : HandlesView) (after : CycleView) (r : OwnedView) (result : Finished)
    (is : Pauses markers want s new left after r result) where
  abbrev pub kept : List Bool
  kept = is.paused.kept

  abbrev pub old_nodes : List Node
  old_nodes = s.objects.nodes

  abbrev pub judged_nodes : List Node
  judged_nodes = condemn kept old_nodes

  abbrev pub registrations : List Registration
  registrations = registrations_of s.cycle.registered

  abbrev pub paused_parts : Parts
  paused_parts = record s { objects = new; handles = left; cycle = after; region = r }

  -- what threads have done
  abbrev pub before : List Entry
  before = entries_of is.entry.entry.others

  -- the history that the pause finds
  abbrev pub found : List PlacedEntry
  found = s.region.taken ++ is.entry.entry.others

  -- the state just before the pause's entry
  abbrev pub ready_state : State
  ready_state = record (state_of s) { region = slots_of found; may = (took (state_of s) before).may; unprinted = untold_of s.region ++ before }

  pub ready_is : took (state_of s) before ≡ ready_state
  ready_is = took_is (state_of s) before ∙ ap (λ region. record ready_state { region = region }) (sym (slots_on s.region.taken is.entry.entry.others))

  pub lives : (n : ℕ) → (node_at new.nodes n).life ≡ (node_at judged_nodes n).life
  lives n = is.paused.stayed.life n ∙ life-after kept old_nodes n

  -- the same slots of the region are cleared, by whichever nodes
  pub dying : dying_slots new.nodes (slots_of (found_of r)) ≡ dying_slots judged_nodes (slots_of found)
  dying =
      ap (λ history. dying_slots new.nodes (slots_of history)) (found_is (O.Pause (dying_slots new.nodes (slots_of (found_of r)))) 0 s.region r is.entry.entry)
      ∙ dying_agree new.nodes judged_nodes (slots_of found) (λ n. ap is_dead (lives n))

  -- ---- the entry

  abbrev mask : ℕ
  mask = dying_slots new.nodes (slots_of (found_of r))

  abbrev xs : List PlacedEntry
  xs = is.entry.entry.others ++ own (O.Pause mask) 0 s.region r is.entry.entry ∷ []

  goes : GoesOn s.region xs r
  goes = goes_on (O.Pause mask) 0 s.region r is.entry.entry

  entries_are : entries_of xs ≡ before ++ entry_of_pause ready_state judged_nodes ∷ []
  entries_are =
      map-append (λ (p : PlacedEntry). p.entry) is.entry.entry.others (own (O.Pause mask) 0 s.region r is.entry.entry ∷ [])
      ∙ ap (λ m. before ++ owner_entry ready_state (O.Pause m) ∷ []) dying

  pub pause_piece : piece_of s.region r ≡ before ++ entry_of_pause ready_state judged_nodes ∷ []
  pause_piece = piece_is s.region r xs goes ∙ entries_are

  -- it reads nothing
  may_after : (took (state_of s) (piece_of s.region r)).may ≡ ready_state.may
  may_after =
      ap (λ l. (took (state_of s) l).may) pause_piece
      ∙ ap (λ (t : State). t.may) (took_append (state_of s) before (entry_of_pause ready_state judged_nodes ∷ []))

  -- ---- the state after it

  abbrev region_left : List RegionSlot
  region_left = region_after (slots_of found) (O.Pause (dying_slots judged_nodes (slots_of found)))

  abbrev unprinted_left : List Entry
  unprinted_left = (untold_of s.region ++ before) ++ entry_of_pause ready_state judged_nodes ∷ []

  region_paused : (t : State) → with_region r t ≡ record (with_region s.region t) { region = region_left; unprinted = unprinted_left }
  region_paused t =
      let e : Entry = entry_of_pause ready_state judged_nodes in
      let build : List RegionSlot → List Entry → State = λ region es. record (with_region s.region t) { region = region; unprinted = es } in
      state_on s.region r xs goes t is.entry.entry.found.told
      ∙ ap (λ l. build (replayed (slots_of s.region.taken) l) (untold_of s.region ++ l)) entries_are
      ∙ ap (λ region. build region (untold_of s.region ++ (before ++ e ∷ [])))
      (replayed-append (slots_of s.region.taken) before (e ∷ [])
      ∙ ap (λ region. region_after region e.op) (sym (slots_on s.region.taken is.entry.entry.others)))
      ∙ ap (build region_left) (sym (append_assoc (untold_of s.region) before (e ∷ [])))

  rest_paused : after.rest ≡ paused_from (record s.cycle.rest { may = ready_state.may })
  rest_paused = is.rest ∙ ap (λ may. paused_from (record s.cycle.rest { may = may })) may_after

  -- the state after the pause, from what each part holds of it
  abbrev build : List Node → HandlesView → List (Option ℕ) → List Registration → Phase → State → State
  build ns k weak rs ph t = record (with_region s.region t) {
    nodes = ns;
    slots = k.slots;
    weak = weak;
    stack = k.stack.words;
    registrations = rs;
    phase = ph;
    region = region_left;
    unprinted = unprinted_left;
  }

  -- the state of the parts after the pause
  pub parts_paused : state_of paused_parts ≡ paused (setup_of s) ready_state judged_nodes
  parts_paused =
      let h : HandlesView = s.handles in
      let weak : List (Option ℕ) = weak_after kept old_nodes h.weak in
      let nodes : List Node = called_back s.objects.callbacks s.objects.types kept s.cycle.registered old_nodes in
      let rest : List Registration = filter (λ r. not (dies judged_nodes r)) registrations in
      region_paused (others_of paused_parts)
      ∙ ap (λ ns. build ns left left.weak (registrations_of after.registered) after.phase after.rest) is.paused.nodes_are
      ∙ ap (λ (k : HandlesView). build nodes k k.weak (registrations_of after.registered) after.phase after.rest) is.handles_left
      ∙ ap (λ w. build nodes h w (registrations_of after.registered) after.phase after.rest)
      (clear_agree (is_dead_at new.nodes) (is_dead_at judged_nodes) h.weak (λ n. ap is_dead (lives n)))
      ∙ ap (λ rs. build nodes h weak rs after.phase after.rest) (ap registrations_of is.paused.left ∙ registrations_left judged_nodes s.cycle.registered)
      ∙ ap (λ ph. build nodes h weak rest ph after.rest) is.phase
      ∙ ap (build nodes h weak rest Sweeping) rest_paused
