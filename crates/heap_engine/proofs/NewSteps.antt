-- The step of a new object.
use Rattle.std.proofs.Common.{◌≡◌, ℕ, ◌<◌, List, [], ◌∷◌, ◌++◌, length, get_or, map, set, Bool, true, Option, Some, None, option_map, refl, sym, ap, ◌∙◌, subst, inr, arith}
use Rattle.std.specs.List.{All}
use Rattle.std.specs.Option.{ForSome}
use Rattle.std.proofs.lemmas.List.{length_push, map-set}
use Rattle.std.proofs.lemmas.List.Elements.{All-get_or, All-head, All-tail, All-append, All-map, All-weaker}
use Rattle.gc_graph.specs.declared.line.Line.{Line}
use Rattle.gc_graph.specs.declared.line.Line.TheVariants as L
use Rattle.gc_graph.specs.State.{Setup, State, ObjectType, Node, Registration, type_at, no_type, is_live, IsLive, stack_targets}
use Rattle.gc_graph.specs.Placement.{IsPlacement}
use Rattle.gc_graph.specs.Fields.{new_node, size_of_type}
use Rattle.gc_graph.specs.May.{may_with_new}
use Rattle.gc_graph.specs.Outcomes.{answered, finalise_lines, with_slot}
use Rattle.gc_graph.specs.ObjectSteps.{StepNew, with_new, registrations_for}
use Rattle.callback_table.specs.declared.registry.Registered.{Registered}
use Rattle.callback_table.specs.Registry.{registrations_of, registered}
use Rattle.callback_table.specs.Registrations.{weakly_registered_all}
use Rattle.heap_cycle.specs.WeakCalling.{AreOfHolders}
use Rattle.heap_cycle.specs.WeakHolders.{holder_joins}
use Rattle.heap_cycle.specs.Sweeping.{cursor_at}
use Rattle.heap_cycle.specs.Nodes.{place_of}
use Rattle.heap_cycle.specs.PlacesInWords.{places_of_slots}
use Rattle.heap_cycle.specs.Stack.{HoldsWords}
use Rattle.heap_cycle.specs.Objects.{with_made, ObjectsView, setup_of_objects, StaysAt}
use Rattle.heap_cycle.specs.Handles.{put_in, HandlesView}
use Rattle.heap_cycle.specs.declared.parts.Parts.{Parts}
use Rattle.heap_cycle.specs.Views.{CycleView, IsPlaced, IsSweepOf}
use Rattle.heap_cycle.specs.Marking.{GreyView}
use Rattle.heap_cycle.specs.Marks.{HasMarks}
use Rattle.heap_cycle.specs.Parts.{setup_of, state_of, counted, AreTied, IsReady, registered_in}
use Rattle.heap_cycle.specs.KeptNodes.{slots_live}
use Rattle.heap_cycle.specs.Registrations.{registrations_join, live_entries}
use Rattle.heap_cycle.specs.NewNodes.{place-old, stays-old, node-new}
use Rattle.heap_cycle.specs.NodePlaces.{live_is_there}
use Rattle.heap_cycle.specs.StackWords.{words_held}
use Rattle.gc_graph.specs.NodeNumbers.{there_below}

-- the cycle once the new node is registered, and may be kept where marking goes on
abbrev pub made_cycle : Parts → ℕ → ℕ → CycleView
made_cycle s t place = record (registered_in s t place).cycle { rest = record s.cycle.rest { may = may_with_new s.cycle.phase s.cycle.rest.may } }

-- the new node joins the others, and its prefinalizers those that are registered
joins : (setup : Setup) (s : State) (p t extra place : ℕ) (rs : List Registration) → rs ≡ s.registrations ++ registrations_for setup t (length s.nodes)
    → answered (with_slot (record s { nodes = s.nodes ++ new_node setup t extra place ∷ []; registrations = rs; may = may_with_new s.phase s.may }) p (Some (length s.nodes)))
    ≡ answered (with_slot (with_new setup s t extra place) p (Some (length s.nodes)))
joins setup s p t extra place rs registered =
    ap (λ r. answered (with_slot (record s { nodes = s.nodes ++ new_node setup t extra place ∷ []; registrations = r; may = may_with_new s.phase s.may }) p (Some (length s.nodes)))) registered

-- from the old parts, through those after the pages that were swept on the way, to a new object at a place
pub step_made : (s mid : Parts) (new : ObjectsView) (after : HandlesView) (left : CycleView) (p t extra place number : ℕ) (numbers : List ℕ) (lines : List Line)
    → setup_of mid ≡ setup_of s → IsPlacement s.objects.shape (state_of s) (size_of_type (setup_of s) t extra) numbers (state_of mid) (Some place)
    → number ≡ length mid.objects.nodes → new.nodes ≡ with_made (setup_of mid) mid.objects.nodes t extra (Some place) → left ≡ made_cycle mid t place
    → after ≡ put_in mid.handles p (Some (place, number)) → lines ≡ finalise_lines numbers ++ L.Placed number place ∷ []
    → StepNew (setup_of s) (state_of s) p t extra lines (answered (state_of (record mid { objects = new; handles = after; cycle = left })))
step_made s mid new after left p t extra place number numbers lines same found counts nodes registers put told =
    let setup : Setup = setup_of mid in
    let st : State = state_of mid in
    let may : List Bool = may_with_new st.phase st.may in
    let entries : List Registered = (registered_in mid t place).cycle.registered in
    let slots : HandlesView = put_in mid.handles p (Some (place, number)) in
    let placed : IsPlacement setup.shape (state_of s) (size_of_type setup t extra) numbers st (Some place) =
    subst (λ (su : Setup). IsPlacement su.shape (state_of s) (size_of_type su t extra) numbers st (Some place)) (sym same) found in
    subst (λ (su : Setup). StepNew su (state_of s) p t extra lines (answered (state_of (record mid { objects = new; handles = after; cycle = left })))) same (inr (record {
      numbers = numbers;
      mid = st;
      place = Some place;
      placed = placed;
      done = record {
        lines_are = told ∙ ap (λ k. finalise_lines numbers ++ L.Placed k place ∷ []) counts;
        after = ap (λ (x : HandlesView). answered (state_of (record mid { objects = new; handles = x; cycle = left }))) put
            ∙ ap (λ (x : CycleView). answered (state_of (record mid { objects = new; handles = slots; cycle = x }))) registers
            ∙ ap (λ (ns : List Node). answered (with_slot (record st { nodes = ns; registrations = registrations_of entries; may = may }) p (Some number))) nodes
            ∙ ap (λ k. answered (with_slot (record st { nodes = st.nodes ++ new_node setup t extra place ∷ []; registrations = registrations_of entries; may = may }) p (Some k))) counts
            ∙ joins setup st p t extra place (registrations_of entries) (registrations_join (length st.nodes) place mid.cycle.registered (type_at setup t).prefinalizers);
      };
    }))

places_on : (nodes : List Node) (x : Node) (slots : List (Option ℕ)) → All (λ slot. ForSome slot (IsLive nodes)) slots → places_of_slots (nodes ++ x ∷ []) slots ≡ places_of_slots nodes slots
places_on nodes x [] live = refl
places_on nodes x (None ∷ slots) live = ap (λ l. None ∷ l) (places_on nodes x slots (All-tail (λ slot. ForSome slot (IsLive nodes)) None slots live))
places_on nodes x (Some n ∷ slots) live =
    let is : IsLive nodes n = All-head (λ slot. ForSome slot (IsLive nodes)) (Some n) slots live n refl in
    ap (λ p. Some p ∷ places_of_slots (nodes ++ x ∷ []) slots) (place-old nodes x n (there_below nodes n (live_is_there nodes n is)))
    ∙ ap (λ l. Some (place_of nodes n) ∷ l) (places_on nodes x slots (All-tail (λ slot. ForSome slot (IsLive nodes)) (Some n) slots live))

-- the registrations hold the places of their nodes, the new ones that of the new node
registered_made : (s : Parts) (new : ObjectsView) (t place : ℕ) (x : Node) → IsReady s → t < length s.objects.types → x.place ≡ place → new.nodes ≡ s.objects.nodes ++ x ∷ []
    → new.callbacks ≡ s.objects.callbacks → All (IsPlaced new.nodes (length new.callbacks)) (registered_in s t place).cycle.registered
registered_made s new t place x ready low at nodes callbacks =
    let old : List Node = s.objects.nodes in
    let now : List Node = old ++ x ∷ [] in
    let most : ℕ = length s.objects.callbacks in
    let entries : List Registered = (registered_in s t place).cycle.registered in
    let prefinalizers : List ℕ = (type_at (setup_of s) t).prefinalizers in
    let known : All (λ number. number < most) prefinalizers =
    All-get_or (λ (type : ObjectType). All (λ number. number < most) type.prefinalizers) s.objects.types t no_type low ready.called.known in
    let same : length new.callbacks ≡ most = ap length callbacks in
    let live : All (λ e. IsLive old e.node) s.cycle.registered = live_entries old s.cycle.registered ready.valid.registered in
    subst (λ (ns : List Node). All (IsPlaced ns (length new.callbacks)) entries) (sym nodes)
    (subst (λ k. All (IsPlaced now k) entries) (sym same)
    (All-append (IsPlaced now most) s.cycle.registered (map (registered (length old) place) prefinalizers)
    (λ k d l. (let is = ready.tied.registered k d l in let lives = live k d l in
    record { place = place-old old x _ (there_below old _ (live_is_there old _ lives)) ∙ is.place; known = is.known }))
    (All-map (IsPlaced now most) (registered (length old) place) prefinalizers
    (All-weaker (λ number. number < most) (λ number. IsPlaced now most (registered (length old) place number))
    (λ number is. record { place = ap (λ (y : Node). y.place) (node-new old x) ∙ at; known = is }) prefinalizers known))))

-- the places of the slots, strong and weak, are as before, and slot p's is that of the new node
pub tied_made : (s : Parts) (new : ObjectsView) (after : HandlesView) (left : CycleView) (p t place number : ℕ) (x : Node) → IsReady s → t < length s.objects.types
    → is_live x.life ≡ true → x.object.ty ≡ t → HasMarks s.cycle.phase (cursor_at s.objects.shape s.cycle.sweep) (may_with_new s.cycle.phase s.cycle.rest.may) new → new.grey ≡ s.objects.grey
    → setup_of_objects new ≡ setup_of s → number ≡ length s.objects.nodes → x.place ≡ place → new.nodes ≡ s.objects.nodes ++ x ∷ [] → left ≡ made_cycle s t place → after ≡ put_in s.handles p (Some (place, number))
    → AreTied (counted (record s { objects = new; handles = after; cycle = left }))
tied_made s new after left p t place number x ready low live typed marks grey setup counts at nodes registers put =
    let old : List Node = s.objects.nodes in
    let now : List Node = old ++ x ∷ [] in
    let h : HandlesView = s.handles in
    let y : CycleView = s.cycle in
    let tied : AreTied s = ready.tied in
    let here : place_of now number ≡ place = ap (place_of now) counts ∙ ap (λ (z : Node). z.place) (node-new old x) ∙ at in
    let slots : List (Option ℕ) = set h.slots p (Some number) in
    let callbacks : new.callbacks ≡ s.objects.callbacks = ap (λ (st : Setup). st.callbacks) setup in
    let is : AreTied (counted (record s { objects = new; handles = after; cycle = made_cycle s t place })) = record {
      slots = ap (λ (k : HandlesView). k.places) put
          ∙ ap (λ l. set l p (Some place)) (tied.slots ∙ sym (places_on old x h.slots (slots_live old h.slots ready.valid.slots)))
          ∙ ap (λ a. set (places_of_slots now h.slots) p (Some a)) (sym here)
          ∙ sym (map-set (λ (slot : Option ℕ). option_map (place_of now) slot) h.slots p (Some number))
          ∙ sym (ap (λ (k : HandlesView). places_of_slots new.nodes k.slots) put ∙ ap (λ (ns : List Node). places_of_slots ns slots) nodes);
      weak = ap (λ (k : HandlesView). k.weak_places) put ∙ tied.weak ∙ sym (places_on old x h.weak (slots_live old h.weak ready.valid.weak))
          ∙ sym (ap (λ (k : HandlesView). places_of_slots new.nodes k.weak) put ∙ ap (λ (ns : List Node). places_of_slots ns h.weak) nodes);
      stack = subst (λ (k : HandlesView). HoldsWords new.nodes k.stack) (sym put)
          (subst (λ (ns : List Node). HoldsWords ns h.stack) (sym nodes)
          (words_held old now h.stack
          (All-weaker (IsLive old) (StaysAt old now) (λ n is. stays-old old x n (there_below old n (live_is_there old n is)))
          (stack_targets h.stack.words) ready.valid.stack) tied.stack));
      registered = registered_made s new t place x ready low at nodes callbacks;
      weakly = subst (λ (ts : List ObjectType). AreOfHolders ts new.nodes (registered_in s t place).cycle.weakly) (sym (ap (λ (st : Setup). st.types) setup))
          (subst (λ (ns : List Node). AreOfHolders s.objects.types ns (registered_in s t place).cycle.weakly) (sym nodes)
          (subst (λ numbers. AreOfHolders s.objects.types now (y.weakly ++ numbers))
          (ap (λ ty. weakly_registered_all (length old) x.place (get_or s.objects.types ty no_type).weak_callbacks) typed
          ∙ ap (λ a. weakly_registered_all (length old) a (type_at (setup_of s) t).weak_callbacks) at)
          (holder_joins s.objects.types old x live y.weakly tied.weakly)));
      sweep = subst (λ (st : Setup). IsSweepOf st.shape y.phase y.rest.cursor y.sweep) (sym setup) tied.sweep;
      marks = subst (λ (st : Setup). HasMarks y.phase (cursor_at st.shape y.sweep) (may_with_new y.phase y.rest.may) new) (sym setup) marks;
      traced = ap (λ (g : GreyView). g.traced) grey ∙ tied.traced;
      made = omega (arith, tied.made, ap length nodes, length_push old x);
    } in
    subst (λ (k : CycleView). AreTied (counted (record s { objects = new; handles = after; cycle = k }))) (sym registers) is
