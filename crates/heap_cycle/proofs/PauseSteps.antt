-- The pause of a cycle is a step of the graph, and leaves the parts tied.
use Rattle.std.proofs.Common.{◌≡◌, ℕ, Bool, true, not, All, List, [], ◌∷◌, ◌++◌, length, map, refl, sym, ap, ◌∙◌, subst, arith}
use Rattle.std.proofs.lemmas.List.{length-map}
use Rattle.std.proofs.lemmas.List.Elements.{All-filter, All-weaker}
use Rattle.gc_graph.specs.declared.command.Want.{Want}
use Rattle.gc_graph.specs.declared.line.Line.TheVariants as L
use Rattle.gc_graph.specs.declared.region.Entry.{Entry}
use Rattle.gc_graph.specs.declared.region.Op.TheVariants as O
use Rattle.gc_graph.specs.CycleSteps.{IsPause, IsPauseAt, is_marking}
use Rattle.gc_graph.specs.History.{IsLegalFrom, NamesWeakSlots}
use Rattle.gc_graph.specs.May.{members, hits_for}
use Rattle.gc_graph.specs.NodeNumbers.{there_below}
use Rattle.gc_graph.specs.Outcomes.{took}
use Rattle.gc_graph.specs.Pause.{IsKept, condemn, dies, dying_slots, run_order, live_count, dead_count}
use Rattle.gc_graph.specs.Paused.{entry_of_pause, callback_lines}
use Rattle.gc_graph.specs.WeakCalls.{weak_calls}
use Rattle.gc_graph.specs.Reach.{RefersWithin, ReachIsLeast}
use Rattle.gc_graph.specs.Replays.{legal-append}
use Rattle.gc_graph.specs.State.{Setup, State, ObjectType, Node, RegionSlot, is_live, is_dead, graph_of, IsLive, slot_targets, stack_targets, strong_region_targets}
use Rattle.gc_graph.specs.Valid.{IsMay, IsValid}
use Rattle.gc_graph.specs.ValidLaw.{OrdersKeepValid}
use Rattle.callback_table.specs.Registry.{registration_of, pairs_run}
use Rattle.callback_table.specs.WeakRegistry.{pair_called}
use Rattle.cross_thread_region.specs.Histories.{slots_of}
use Rattle.cross_thread_region.specs.OrdersStay.{slots_on}
use Rattle.heap_roots.specs.Finished.{Finished}
use Rattle.heap_roots.specs.Handles.{HandlesView}
use Rattle.heap_roots.specs.Judgement.{nodes_after}
use Rattle.heap_roots.specs.KeptNodes.{refers_within}
use Rattle.heap_roots.specs.MembersOf.{among_member}
use Rattle.heap_roots.specs.Nodes.{place_of}
use Rattle.heap_roots.specs.Objects.{ObjectsView, StaysAt}
use Rattle.heap_roots.specs.Owned.{OwnedView, found_of, piece_of}
use Rattle.heap_roots.specs.Pausing.{IsKeptBetween, hits_in}
use Rattle.heap_roots.specs.PlacesInWords.{places_of_slots}
use Rattle.heap_roots.specs.Stack.{HoldsWords, is_precise}
use Rattle.heap_roots.specs.StackWords.{words_held}
use Rattle.heap_roots.specs.WeakNodes.{place-after, length-after, live-after, dead-after, count-stays}
use Rattle.heap_roots.specs.WeakCalling.{AreOfHolders}
use Rattle.heap_cycle.specs.declared.parts.Parts.{Parts}
use Rattle.heap_cycle.specs.Cycles.{HasPaused, pause_line}
use Rattle.heap_cycle.specs.Parts.{setup_of, state_of}
use Rattle.heap_cycle.specs.Printed.{ran_lines}
use Rattle.heap_cycle.specs.Region.{HasRegion}
use Rattle.heap_cycle.specs.Registrations.{lines_ran}
use Rattle.heap_cycle.specs.Ties.{places-same, placed_still, valid_nodes}
use Rattle.heap_cycle.specs.Views.{CycleView, IsPlaced}
use Rattle.heap_cycle.proofs.EnteredRegion.{grown, placed_entered, started_entered}
use Rattle.heap_cycle.proofs.MayTaken.{kept_more, may_grows, may_in}
use Rattle.heap_cycle.proofs.PauseKeeps.{has_roots, pause_keeps, HasRoots}
use Rattle.heap_cycle.proofs.PauseStates.{Pauses, before, dying, found, judged_nodes, kept, old_nodes, parts_paused, pause_piece, paused_parts, ready_is, ready_state, registrations}
use Rattle.heap_cycle.proofs.SweepSteps.{began_marks, began_sweep}
use Rattle.heap_cycle.proofs.Pieces.{found_is, others_start_nothing}

module _ (markers : ℕ) (want : Want) (s : Parts) (new : ObjectsView) (left : HandlesView) (after : CycleView) (r : OwnedView) (result : Finished)
    (is : Pauses markers want s new left after r result) (law : ReachIsLeast) (orders : OrdersKeepValid) where
  abbrev old : List Node
  old = old_nodes markers want s new left after r result is

  abbrev set : List Bool
  set = kept markers want s new left after r result is

  abbrev judged : List Node
  judged = judged_nodes markers want s new left after r result is

  abbrev es : List Entry
  es = before markers want s new left after r result is

  abbrev ready : State
  ready = ready_state markers want s new left after r result is

  abbrev parts : Parts
  parts = paused_parts markers want s new left after r result is

  abbrev slots_found : List RegionSlot
  slots_found = slots_of (found markers want s new left after r result is)

  abbrev hits : List ℕ
  hits = hits_in (is_precise want) old s.handles.stack.addresses

  -- ---- what was kept

  valid : IsValid (setup_of s) ready
  valid = subst (IsValid (setup_of s)) (ready_is markers want s new left after r result is) (orders (setup_of s) (state_of s) es is.entry.entry.found.orders is.ready.valid)

  may : IsMay ready
  may = may_in ready is.marking valid.may_kept

  refers : RefersWithin (graph_of old)
  refers = refers_within (setup_of s) old (valid_nodes s is.ready)

  roots : HasRoots want ready hits
  roots = has_roots want ready s.handles.stack refl is.allowed valid.stack is.ready.tied.stack

  between : IsKeptBetween old (slot_targets s.handles.slots ++ strong_region_targets slots_found ++ hits) (members ready.may ++ strong_region_targets slots_found ++ hits) set
  between =
      let count : length (graph_of old) ≡ length old = length-map old (λ (x : Node). x.object) in
      let mask : ℕ = dying_slots new.nodes (slots_of (found_of r)) in
      kept_more ready (slot_targets s.handles.slots ++ strong_region_targets slots_found ++ hits) (members s.cycle.rest.may) hits set law refers may
      (λ n hit. omega (arith, count, there_below old n (roots.there n hit)))
      (λ n member. may_grows (setup_of s) (state_of s) es law orders is.marking is.entry.entry.found.orders is.ready.valid n (among_member s.cycle.rest.may n member))
      (subst (λ (history : List _).
      IsKeptBetween old (slot_targets s.handles.slots ++ strong_region_targets (slots_of history) ++ hits)
      (members s.cycle.rest.may ++ strong_region_targets (slots_of history) ++ hits) set) (found_is (O.Pause mask) 0 s.region r is.entry.entry) is.paused.between)

  keeps : IsKept ready (hits_for want ready) set
  keeps = pause_keeps want ready hits set law refers may valid.slots roots between

  -- ---- what is told

  lines : pause_line result ∷ ran_lines true after.ran
      ≡ L.Pause (live_count judged) (dead_count judged) result.crew result.pause.traced result.pause.walked
      ∷ callback_lines (weak_calls s.objects.types judged) (run_order judged (registrations markers want s new left after r result is))
  lines =
      let ran : after.ran ≡ record { weak = map pair_called (weak_calls s.objects.types judged); prefinalised = pairs_run judged s.cycle.registered } =
      ap (λ (rs : List (ℕ × ℕ)). record { weak = rs; prefinalised = after.ran.prefinalised }) is.paused.weak_ran
      ∙ ap (λ (rs : List (ℕ × ℕ)). record { weak = map pair_called (weak_calls s.objects.types judged); prefinalised = rs }) is.paused.ran in
      let live : result.pause.kept ≡ live_count judged =
      is.kept_is ∙ count-stays is_live (nodes_after set old) new.nodes is.paused.stayed.count is.paused.stayed.life ∙ live-after set old in
      let dead : result.pause.dead ≡ dead_count judged =
      is.dead_is ∙ count-stays is_dead (nodes_after set old) new.nodes is.paused.stayed.count is.paused.stayed.life ∙ dead-after set old in
      ap (λ k. L.Pause k result.pause.dead result.crew result.pause.traced result.pause.walked ∷ ran_lines true after.ran) live
      ∙ ap (λ d. L.Pause (live_count judged) d result.crew result.pause.traced result.pause.walked ∷ ran_lines true after.ran) dead
      ∙ ap (λ ls. L.Pause (live_count judged) (dead_count judged) result.crew result.pause.traced result.pause.walked ∷ ls)
      (ap (ran_lines true) ran ∙ lines_ran judged (weak_calls s.objects.types judged) s.cycle.registered)

  pauses_at : IsPauseAt (setup_of s) markers want ready set judged (pause_line result ∷ ran_lines true after.ran) (state_of parts)
  pauses_at = record {
    keeps = keeps;
    crew = result.crew;
    traced = result.pause.traced;
    walked = result.pause.walked;
    crew_is = is.crew_is;
    counted = omega (
      arith,
      is.traced_is,
      is.ready.tied.traced,
      is.kept_is,
      count-stays is_live (nodes_after set old) new.nodes is.paused.stayed.count is.paused.stayed.life,
      live-after set old,
    );
    lines_are = lines;
    after = parts_paused markers want s new left after r result is;
  }

  -- ---- the history

  weak_named : NamesWeakSlots (dying_slots judged slots_found) slots_found
  weak_named =
      let mask : ℕ = dying_slots new.nodes (slots_of (found_of r)) in
      subst (λ m. NamesWeakSlots m slots_found) (dying markers want s new left after r result is)
      (subst (λ history. NamesWeakSlots mask (slots_of history)) (found_is (O.Pause mask) 0 s.region r is.entry.entry) is.entry.weak)

  legal : IsLegalFrom (slots_of s.region.taken) true (piece_of s.region r)
  legal =
      let slots : List RegionSlot = slots_of s.region.taken in
      let others : IsLegalFrom slots true es =
      subst (λ started. IsLegalFrom slots started es) (is.region.started ∙ ap is_marking is.marking) is.entry.entry.found.legal in
      subst (IsLegalFrom slots true) (sym (pause_piece markers want s new left after r result is))
      (legal-append slots true es (entry_of_pause ready judged ∷ []) others (
        refl,
        (
          others_start_nothing (state_of s) true es is.entry.entry.found.orders,
          subst (NamesWeakSlots (dying_slots judged slots_found)) (slots_on s.region.taken is.entry.entry.others) weak_named,
        ),
        tt,
      ))

  pause_steps : IsPause (setup_of s) markers want (state_of s) (piece_of s.region r) (pause_line result ∷ ran_lines true after.ran) (state_of parts)
  pause_steps =
      let at : State → Type 0 = λ t. IsPauseAt (setup_of s) markers want t set (condemn set t.nodes) (pause_line result ∷ ran_lines true after.ran) (state_of parts) in
      let same : took (state_of s) es ≡ ready = ready_is markers want s new left after r result is in
      record {
        before = es;
        others = is.entry.entry.found.orders;
        kept = set;
        done = subst at (sym same) pauses_at;
        piece_is = pause_piece markers want s new left after r result is ∙ ap (λ (t : State). es ++ entry_of_pause t (condemn set t.nodes) ∷ []) (sym same);
        legal = legal;
      }

  -- ---- the parts

  places : (n : ℕ) → place_of new.nodes n ≡ place_of old n
  places n = is.paused.stayed.place n ∙ place-after set old n

  -- the registrations that are left hold the places of their nodes
  registered_left : All (IsPlaced new.nodes (length new.callbacks)) after.registered
  registered_left =
      subst (All (IsPlaced new.nodes (length new.callbacks))) (sym is.paused.left)
      (All-filter (λ e. not (dies judged (registration_of e))) (IsPlaced new.nodes (length new.callbacks)) s.cycle.registered
      (placed_still s.objects new s.cycle.registered places (ap (λ (st : Setup). st.callbacks) is.setup) is.ready.tied.registered))

  -- the region after the pause
  region_left : HasRegion parts
  region_left =
      let mask : ℕ = dying_slots new.nodes (slots_of (found_of r)) in
      record {
        opened = ap (λ (v : OwnedView). v.closed) is.entry.entry.rest ∙ is.region.opened;
        placed = λ x n named.
            placed_entered (O.Pause mask) 0 s.region r is.entry.entry old is.ready.valid.region is.region.placed (λ y m e. cc) x n named ∙ sym (places n);
        started = started_entered (O.Pause mask) 0 s.region r is.entry.entry ∙ sym (ap is_marking is.phase);
      }

  pub has_paused : HasPaused markers want s parts result
  has_paused =
      let h : HandlesView = s.handles in
      let ordinal : after.rest.ordinal ≡ s.cycle.rest.ordinal = ap (λ (st : State). st.ordinal) is.rest in
      record {
        pause = pause_steps;
        phase = is.phase;
        setup = is.setup;
        ordinal = ordinal;
        tied = record {
          slots = ap (λ (k : HandlesView). k.places) is.handles_left ∙ is.ready.tied.slots ∙ sym (places-same (place_of new.nodes) (place_of old) h.slots places)
              ∙ sym (ap (λ (k : HandlesView). places_of_slots new.nodes k.slots) is.handles_left);
          weak = ap (λ (k : HandlesView). k.weak_places) is.handles_left;
          stack = subst (λ (k : HandlesView). HoldsWords new.nodes k.stack) (sym is.handles_left)
              (words_held old new.nodes h.stack
              (All-weaker (IsLive old) (StaysAt old new.nodes) (λ n live. (places n, is.sizes n live)) (stack_targets h.stack.words) is.ready.valid.stack)
              is.ready.tied.stack);
          registered = registered_left;
          weakly = subst (λ (ts : List ObjectType). AreOfHolders ts new.nodes after.weakly) (sym (ap (λ (st : Setup). st.types) is.setup)) is.paused.weak_left;
          sweep = began_sweep s.objects new s.cycle after is.ready.tied.sweep is.setup is.phase is.sweep (ap (λ (st : State). st.cursor) is.rest);
          marks = began_marks new after s.cycle.sweep is.phase is.sweep is.rests is.judged_marks;
          traced = is.kept_traced ∙ is.ready.tied.traced ∙ sym (ap (λ (st : State). st.traced) is.rest);
          made = omega (arith, is.ready.tied.made, ordinal, is.paused.stayed.count, length-after set old);
        };
        grown = grown (O.Pause (dying_slots new.nodes (slots_of (found_of r)))) 0 s.region r is.entry.entry;
        region = region_left;
        walked = is.walked;
      }
