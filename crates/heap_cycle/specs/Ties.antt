-- What a command leaves tied, and what a ready heap tells of its parts.
use Rattle.std.proofs.Common.{◌≡◌, ℕ, ◌≤◌, Bool, true, false, All, List, [], ◌∷◌, length, get_or, set, map, Option, Some, None, option_map, refl, sym, ap, ◌∙◌, subst, inl, inr, arith}
use Rattle.std.specs.Option.{ForSome}
use Rattle.std.proofs.lemmas.Bool.{cases_lt, true≢false}
use Rattle.std.proofs.lemmas.List.{map-set, length-map, get_or-map, get_or_past}
use Rattle.std.proofs.lemmas.List.Elements.{All-get_or, All-weaker}
use Rattle.gc_graph.specs.declared.phase.Phase.{Phase}
use Rattle.gc_graph.specs.declared.phase.Phase.TheVariants.{Idle, Marking, Sweeping}
use Rattle.gc_graph.specs.CycleSteps.{is_marking}
use Rattle.gc_graph.specs.State.{Setup, ObjectType, Node, IsLive, slot_targets}
use Rattle.heap_roots.specs.MarkerCrews.{Marker}
use Rattle.gc_graph.specs.Valid.{AreLive}
use Rattle.callback_table.specs.declared.registry.Registered.{Registered}
use Rattle.heap_roots.specs.Sweeping.{cursor_at}
use Rattle.heap_roots.specs.Nodes.{place_of, AreOfValid}
use Rattle.heap_roots.specs.PlacesInWords.{places_of_slots}
use Rattle.heap_roots.specs.Objects.{IsLiveAt, ObjectsView, setup_of_objects, StaysAt}
use Rattle.heap_cycle.specs.declared.parts.Parts.{Parts}
use Rattle.heap_cycle.specs.Views.{CycleView, IsPlaced, IsSweepOf}
use Rattle.heap_roots.specs.Marking.{GreyView}
use Rattle.heap_roots.specs.Marks.{HasMarking, HasMarks}
use Rattle.heap_cycle.specs.Parts.{setup_of, state_of, counted, AreTied, IsManned, IsReady}
use Rattle.heap_roots.specs.Handles.{put_in, copied_in, weakened_in, popped_in}
use Rattle.heap_roots.specs.KeptNodes.{slots_live}
use Rattle.heap_roots.specs.StackWords.{words_held, words_popped}
use Rattle.heap_roots.specs.WeakCalling.{AreOfHolders}
use Rattle.heap_roots.specs.WeakHolders.{StayHolders, holders_stay}

-- the nodes of parts that are ready are those of a valid state
pub valid_nodes : (s : Parts) → IsReady s → AreOfValid (setup_of s) s.objects.nodes
valid_nodes s ready = (state_of s, ready.valid, refl)

-- ---- slots

-- slots that hold the places of what they name do so one by one
place_held : (nodes : List Node) (places slots : List (Option ℕ)) (p : ℕ) → places ≡ places_of_slots nodes slots → get_or places p None ≡ option_map (place_of nodes) (get_or slots p None)
place_held nodes places slots p held =
    ap (λ l. get_or l p None) held ∙ elim (cases_lt p (length slots)) [
      | inl low ↦ get_or-map (λ (slot : Option ℕ). option_map (place_of nodes) slot) slots p None None low
      | inr past ↦ get_or_past (places_of_slots nodes slots) p None (omega (arith, past, length-map slots (λ (slot : Option ℕ). option_map (place_of nodes) slot)))
          ∙ sym (ap (option_map (place_of nodes)) (get_or_past slots p None past))
    ]

live_held : (nodes : List Node) (slots : List (Option ℕ)) (p : ℕ) → AreLive nodes (slot_targets slots) → ForSome (get_or slots p None) (IsLive nodes)
live_held nodes slots p live =
    elim (cases_lt p (length slots)) [
      | inl low ↦ All-get_or (λ slot. ForSome slot (IsLive nodes)) slots p None low (slots_live nodes slots live)
      | inr past ↦ λ n is. (let never : None ≡ Some n = sym (get_or_past slots p None past) ∙ is in cc)
    ]

placed : (place : ℕ → ℕ) (slot : Option ℕ) (a : ℕ) → option_map place slot ≡ Some a → (n : ℕ) × (slot ≡ Some n) × (place n ≡ a)
placed place None a e = cc
placed place (Some n) a e = (n, refl, (let same : place n ≡ a = cc in same))

named_held : (nodes : List Node) (places slots : List (Option ℕ)) (p a : ℕ) → places ≡ places_of_slots nodes slots → AreLive nodes (slot_targets slots) → get_or places p None ≡ Some a
    → (n : ℕ) × (get_or slots p None ≡ Some n) × IsLiveAt nodes n a
named_held nodes places slots p a held live is =
    let named = placed (place_of nodes) (get_or slots p None) a (sym (place_held nodes places slots p held) ∙ is) in
    (named.0, named.1, (live_held nodes slots p live named.0 named.1, named.2))

-- a slot holds the place of what it names
pub slot_place : (s : Parts) (p : ℕ) → AreTied s → get_or s.handles.places p None ≡ option_map (place_of s.objects.nodes) (get_or s.handles.slots p None)
slot_place s p tied = place_held s.objects.nodes s.handles.places s.handles.slots p tied.slots

-- what a strong slot of parts that are ready names is live
pub slot_live : (s : Parts) (p : ℕ) → IsReady s → ForSome (get_or s.handles.slots p None) (IsLive s.objects.nodes)
slot_live s p ready = live_held s.objects.nodes s.handles.slots p ready.valid.slots

-- a slot that holds a place names the live node there
pub slot_names : (s : Parts) (p a : ℕ) → IsReady s → get_or s.handles.places p None ≡ Some a
    → (n : ℕ) × (get_or s.handles.slots p None ≡ Some n) × IsLiveAt s.objects.nodes n a
slot_names s p a ready is = named_held s.objects.nodes s.handles.places s.handles.slots p a ready.tied.slots ready.valid.slots is

-- and so does a weak slot
pub weak_slot_names : (s : Parts) (w a : ℕ) → IsReady s → get_or s.handles.weak_places w None ≡ Some a
    → (n : ℕ) × (get_or s.handles.weak w None ≡ Some n) × IsLiveAt s.objects.nodes n a
weak_slot_names s w a ready is = named_held s.objects.nodes s.handles.weak_places s.handles.weak w a ready.tied.weak ready.valid.weak is

-- ---- ties

-- a handle gets the place of what it names
pub tied_slot : (s : Parts) (p : ℕ) (target : Option (ℕ × ℕ))
    → option_map (λ (t : ℕ × ℕ). t.0) target ≡ option_map (place_of s.objects.nodes) (option_map (λ (t : ℕ × ℕ). t.1) target)
    → AreTied s → AreTied (counted (record s { handles = put_in s.handles p target }))
tied_slot s p target is tied = record {
  slots = ap (λ l. set l p (option_map (λ (t : ℕ × ℕ). t.0) target)) tied.slots ∙ ap (λ x. set (places_of_slots s.objects.nodes s.handles.slots) p x) is
      ∙ sym (map-set (λ (slot : Option ℕ). option_map (place_of s.objects.nodes) slot) s.handles.slots p (option_map (λ (t : ℕ × ℕ). t.1) target));
  weak = tied.weak;
  stack = tied.stack;
  registered = tied.registered;
  weakly = tied.weakly;
  sweep = tied.sweep;
  marks = tied.marks;
  traced = tied.traced;
  made = omega (arith, tied.made);
}

-- slot q gets what slot p holds
pub tied_copy : (s : Parts) (p q : ℕ) → AreTied s → AreTied (counted (record s { handles = copied_in s.handles p q }))
tied_copy s p q tied = record {
  slots = ap (λ l. set l q (get_or s.handles.places p None)) tied.slots ∙ ap (λ x. set (places_of_slots s.objects.nodes s.handles.slots) q x) (slot_place s p tied)
      ∙ sym (map-set (λ (slot : Option ℕ). option_map (place_of s.objects.nodes) slot) s.handles.slots q (get_or s.handles.slots p None));
  weak = tied.weak;
  stack = tied.stack;
  registered = tied.registered;
  weakly = tied.weakly;
  sweep = tied.sweep;
  marks = tied.marks;
  traced = tied.traced;
  made = omega (arith, tied.made);
}

-- weak slot w gets what slot p holds
pub tied_weak : (s : Parts) (w p : ℕ) → AreTied s → AreTied (counted (record s { handles = weakened_in s.handles w p }))
tied_weak s w p tied = record {
  slots = tied.slots;
  weak = ap (λ l. set l w (get_or s.handles.places p None)) tied.weak ∙ ap (λ x. set (places_of_slots s.objects.nodes s.handles.weak) w x) (slot_place s p tied)
      ∙ sym (map-set (λ (slot : Option ℕ). option_map (place_of s.objects.nodes) slot) s.handles.weak w (get_or s.handles.slots p None));
  stack = tied.stack;
  registered = tied.registered;
  weakly = tied.weakly;
  sweep = tied.sweep;
  marks = tied.marks;
  traced = tied.traced;
  made = omega (arith, tied.made);
}

-- the last word of the stack was taken away
pub tied_pop : (s : Parts) → AreTied s → AreTied (counted (record s { handles = popped_in s.handles }))
tied_pop s tied = record {
  slots = tied.slots;
  weak = tied.weak;
  stack = words_popped s.objects.nodes s.handles.stack tied.stack;
  registered = tied.registered;
  weakly = tied.weakly;
  sweep = tied.sweep;
  marks = tied.marks;
  traced = tied.traced;
  made = omega (arith, tied.made);
}

pub places-same : (f g : ℕ → ℕ) (slots : List (Option ℕ)) → ((n : ℕ) → f n ≡ g n) → map (λ (slot : Option ℕ). option_map f slot) slots ≡ map (λ (slot : Option ℕ). option_map g slot) slots
places-same f g [] same = refl
places-same f g (None ∷ slots) same = ap (λ l. None ∷ l) (places-same f g slots same)
places-same f g (Some n ∷ slots) same = ap (λ p. Some p ∷ map (λ (slot : Option ℕ). option_map f slot) slots) (same n) ∙ ap (λ l. Some (g n) ∷ l) (places-same f g slots same)

-- the registrations hold the places of their nodes, where these stay
pub placed_still : (o new : ObjectsView) (entries : List Registered) → ((n : ℕ) → place_of new.nodes n ≡ place_of o.nodes n) → new.callbacks ≡ o.callbacks
    → All (IsPlaced o.nodes (length o.callbacks)) entries → All (IsPlaced new.nodes (length new.callbacks)) entries
placed_still o new entries same callbacks placed =
    All-weaker (IsPlaced o.nodes (length o.callbacks)) (IsPlaced new.nodes (length new.callbacks))
    (λ e is. record { place = same e.node ∙ is.place; known = omega (arith, is.known, ap length callbacks) }) entries placed

-- the nodes change, but their places, sizes and types stay, and those that lived live; no callback is registered
pub tied_nodes : (s : Parts) (new : ObjectsView) (after : CycleView) → AreTied s → ((n : ℕ) → StaysAt s.objects.nodes new.nodes n)
    → setup_of_objects new ≡ setup_of s → after.registered ≡ s.cycle.registered → StayHolders s.objects.nodes new.nodes → after.weakly ≡ s.cycle.weakly
    → IsSweepOf new.shape after.phase after.rest.cursor after.sweep → HasMarks after.phase (cursor_at new.shape after.sweep) after.rest.may new
    → new.grey.traced ≡ after.rest.traced → length new.nodes ≤ after.rest.ordinal → AreTied (record s { objects = new; cycle = after })
tied_nodes s new after tied same setup registered holders weakly sweep marks traced made = record {
  slots = tied.slots ∙ sym (places-same (place_of new.nodes) (place_of s.objects.nodes) s.handles.slots (λ n. (same n).0));
  weak = tied.weak ∙ sym (places-same (place_of new.nodes) (place_of s.objects.nodes) s.handles.weak (λ n. (same n).0));
  stack = words_held s.objects.nodes new.nodes s.handles.stack (λ k d low. same _) tied.stack;
  registered = subst (All (IsPlaced new.nodes (length new.callbacks))) (sym registered)
      (placed_still s.objects new s.cycle.registered (λ n. (same n).0) (ap (λ (st : Setup). st.callbacks) setup) tied.registered);
  weakly = subst (λ (ts : List ObjectType). AreOfHolders ts new.nodes after.weakly) (sym (ap (λ (st : Setup). st.types) setup))
      (subst (AreOfHolders s.objects.types new.nodes) (sym weakly) (holders_stay s.objects.types s.objects.nodes new.nodes holders s.cycle.weakly tied.weakly));
  sweep = sweep;
  marks = marks;
  traced = traced;
  made = made;
}

-- and no more than fields change: the sweep and the marks stay
pub tied_fields : (s : Parts) (new : ObjectsView) → AreTied s → ((n : ℕ) → StaysAt s.objects.nodes new.nodes n) → setup_of_objects new ≡ setup_of s
    → HasMarks s.cycle.phase (cursor_at s.objects.shape s.cycle.sweep) s.cycle.rest.may new → new.grey.traced ≡ s.objects.grey.traced
    → StayHolders s.objects.nodes new.nodes → AreTied (counted (record s { objects = new }))
tied_fields s new tied same setup marks traced holders =
    tied_nodes s new (counted s).cycle tied same setup refl holders refl (subst (λ (st : Setup). IsSweepOf st.shape s.cycle.phase s.cycle.rest.cursor s.cycle.sweep) (sym setup) tied.sweep)
    (subst (λ (st : Setup). HasMarks s.cycle.phase (cursor_at st.shape s.cycle.sweep) s.cycle.rest.may new) (sym setup) marks) (traced ∙ tied.traced)
    (omega (arith, tied.made, holders.whole))

-- one command more was answered
pub tied_counted : (s : Parts) → AreTied s → AreTied (counted s)
tied_counted s tied = record {
  slots = tied.slots;
  weak = tied.weak;
  stack = tied.stack;
  registered = tied.registered;
  weakly = tied.weakly;
  sweep = tied.sweep;
  marks = tied.marks;
  traced = tied.traced;
  made = omega (arith, tied.made);
}

-- ---- the markers that run

-- the owner's state tells whether marking goes on
told_marking : (phase : Phase) (limit : ℕ) (may : List Bool) (o : ObjectsView) → HasMarks phase limit may o → o.grey.marking.on ≡ true → phase ≡ Marking
told_marking Idle limit may o marks on = absurd (true≢false (sym on ∙ marks.0.clear.off))
told_marking Marking limit may o marks on = refl
told_marking Sweeping limit may o marks on = absurd (true≢false (sym on ∙ marks.0.clear.off))

-- as many run as before where what is kept of marking stays
pub manned_grey : (s t : Parts) → AreTied s → AreTied t → t.objects.grey ≡ s.objects.grey → IsManned s → IsManned t
manned_grey s t before tied grey manned =
    λ marking. (let on : t.objects.grey.marking.on ≡ true =
    (subst (λ ph. HasMarks ph (cursor_at t.objects.shape t.cycle.sweep) t.cycle.rest.may t.objects) marking tied.marks).under_way.told in
    let was : s.cycle.phase ≡ Marking =
    told_marking s.cycle.phase (cursor_at s.objects.shape s.cycle.sweep) s.cycle.rest.may s.objects before.marks (sym (ap (λ (g : GreyView). g.marking.on) grey) ∙ on) in
    ap (λ (g : GreyView). length g.running) grey ∙ manned was ∙ sym (ap (λ (g : GreyView). g.markers) grey))

-- or where marking goes on with those that ran
pub manned_running : (s t : Parts) → t.cycle.phase ≡ s.cycle.phase → t.objects.grey.running ≡ s.objects.grey.running → setup_of t ≡ setup_of s → IsManned s → IsManned t
manned_running s t phase running setup manned = λ marking. ap length running ∙ manned (sym phase ∙ marking) ∙ sym (ap (λ (u : Setup). u.markers) setup)

-- while no marking goes on this says nothing
pub manned_calm : (s : Parts) (phase : Phase) → s.cycle.phase ≡ phase → is_marking phase ≡ false → IsManned s
manned_calm s phase is calm = λ marking. absurd (true≢false (sym (ap is_marking (sym is ∙ marking)) ∙ calm))

-- where a heap has no markers none runs
pub none_runs : (may : List Bool) (o : ObjectsView) → HasMarking may o → o.grey.markers ≡ 0 → o.grey.running ≡ []
none_runs may o marking none = go o.grey.running refl where
  go : (running : List Marker) → o.grey.running ≡ running → running ≡ []
  go [] is = refl
  go (m ∷ running) is = absurd (omega (arith, (marking.crew.out (omega (arith, ap length is))).many, none, ap length is))
