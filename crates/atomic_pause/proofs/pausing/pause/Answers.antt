use Rattle.std.proofs.Common.{arith, ◌+◌, ◌<◌, ◌≤◌, ◌^◌, rules, ◌≡◌, ℕ, Bool, not, List, ◌++◌, length, map, get_or, refl, sym, ap, ◌∙◌, subst}
use Rattle.std.proofs.Transfers.{starts_with_trans}
use Rattle.std.specs.List.{All}
use Rattle.gc_graph.specs.declared.action.ActionKind.{ActionKind}
use Rattle.gc_graph.specs.State.{Setup, Node, slot_targets}
use Rattle.gc_graph.specs.May.{members}
use Rattle.gc_graph.specs.declared.kind.Kind.TheVariants.{Weak, Pair}
use Rattle.gc_graph.specs.ActionLaw.{HaveStayed}
use Rattle.gc_graph.specs.Pause.{condemn, live_count, prefinalised, run_order}
use Rattle.gc_graph.specs.WeakCalls.{weak_calls, called}
use Rattle.persistent_slots.specs.Clearing.{taken}
use Rattle.callback_table.specs.declared.registry.Registered.{Registered}
use Rattle.callback_table.specs.Registry.{IsRegistered, registrations_of}
use Rattle.callback_table.specs.Table.{callback_kinds}
use Rattle.callback_table.specs.WeakRegistry.{IsWeaklyRegistered, calls_in_order, pair_called}
use Rattle.cross_thread_region.specs.Calls.{PassView}
use Rattle.cross_thread_region.specs.Pauses.{dying_of}
use Rattle.marker_core.specs.Bodies.{IsPlace, holds}
use Rattle.marker_core.specs.declared.states.Body.{Body}
use Rattle.page_words.specs.Seat.{SeatView}
use Rattle.weak_clearing.specs.Space.{extents_of_bodies}
use Rattle.prefinalizer_effects.specs.Prepared.{setup_in_space, IsPrepared}
use Rattle.prefinalizer_effects.specs.LookedObjects.{prepared_looked}
use Rattle.prefinalizer_effects.specs.PlacesInWords.{kept_of}
use Rattle.prefinalizer_effects.specs.Judgement.{nodes_after}
use Rattle.prefinalizer_effects.specs.NodePlaces.{places_differ}
use Rattle.atomic_pause.specs.Marking.{IsOtherRoot, IsRootPlace, IsMayOrRoot, MarksReachable, marked_count}
use Rattle.atomic_pause.specs.Pausing.{IsKeptBetween, IsPlaceOfKept, found_before}
use Rattle.atomic_pause.proofs.LookedNodes.{looked_at_kept}
use Rattle.atomic_pause.proofs.MarkedOut.{looked_early}
use Rattle.atomic_pause.proofs.BodyReferences.{alive_marked, marked_references}
use Rattle.atomic_pause.proofs.PausedNodes.{few_kept, none_missing, prepared, paused_is, registered_after, kept_count, dead_left}
use Rattle.atomic_pause.proofs.ReachedNodes.{has_marked, others_at, other_roots, roots_with, roots_with_others, keeps_between}
use Rattle.atomic_pause.proofs.RegionPaused.{NamesLive, before_own, found_live, shared_place, weak_is_place, cleared_are_dead, region_paused}
use Rattle.atomic_pause.specs.WeakCalling.{AreOfHolders, weak_holders}
use Rattle.atomic_pause.proofs.WeakEntries.{all_shown, judged_nodes, masked_entry, left_after, left_registered, calls_of_kept, may_run}
use Rattle.atomic_pause.proofs.WeakJudged.{IsMarked, marked_is, both_cleared, extents_cleared, place_cleared, weak_left_is}
use Rattle.atomic_pause.proofs.pausing.pause.Given as given
use Rattle.atomic_pause.proofs.pausing.pause.Goals as goal

pub mark_out-more-requires-clause-differ : goal.mark_out-more-requires-clause-differ
mark_out-more-requires-clause-differ g c =
    places_differ c.args.parts.nodes.now.value c.args.parts.seat.now c.bodies_lie_apart.ensures c.requires.held.bodies

pub mark_out-more-requires-clause-shared : goal.mark_out-more-requires-clause-shared
mark_out-more-requires-clause-shared g c = λ x p is.
    shared_place c.args.parts.nodes.now.value c.pause_begin-held.result.history c.args.parts.seat.now x p
    (found_live c.args.parts.nodes.now.value c.args.parts.region.now c.args.parts.pass.now c.pause_begin-held.result.history c.requires.shared c.pause_begin-held.ensures.found) c.requires.held is

pub clear_weak-requires-clause-references : goal.clear_weak-requires-clause-references
clear_weak-requires-clause-references g c =
    let marks = c.mark_out-more.ensures.over in
    marked_references Weak (setup_in_space c.args.parts.space.now c.args.parts.types.now (callback_kinds c.args.parts.callbacks.now)) c.args.parts.nodes.now.value c.mark_out-more.new.seat refl (marks.known ∙ c.requires.types)
    (alive_marked (setup_in_space c.args.parts.space.now c.args.parts.types.now (callback_kinds c.args.parts.callbacks.now)) c.args.parts.nodes.now.value (IsRootPlace c.args.parts.strong.now c.pause_begin-held.result.history c.args.precise c.args.parts.seat.now.bodies c.args.stack.now) (IsMayOrRoot c.pause_begin-held.result.history c.args.precise c.args.parts.seat.now c.args.stack.now)
    c.args.parts.seat.now c.mark_out-more.new.seat c.requires.valid c.requires.held (c.bodies_lie_apart.ensures.marking c.requires.ready.on).no_dead marks)

pub clear_weak-requires-clause-pairs : goal.clear_weak-requires-clause-pairs
clear_weak-requires-clause-pairs g c =
    let marks = c.mark_out-more.ensures.over in
    marked_references Pair (setup_in_space c.args.parts.space.now c.args.parts.types.now (callback_kinds c.args.parts.callbacks.now)) c.args.parts.nodes.now.value c.mark_out-more.new.seat refl (marks.known ∙ c.requires.types)
    (alive_marked (setup_in_space c.args.parts.space.now c.args.parts.types.now (callback_kinds c.args.parts.callbacks.now)) c.args.parts.nodes.now.value (IsRootPlace c.args.parts.strong.now c.pause_begin-held.result.history c.args.precise c.args.parts.seat.now.bodies c.args.stack.now) (IsMayOrRoot c.pause_begin-held.result.history c.args.precise c.args.parts.seat.now c.args.stack.now)
    c.args.parts.seat.now c.mark_out-more.new.seat c.requires.valid c.requires.held (c.bodies_lie_apart.ensures.marking c.requires.ready.on).no_dead marks)

pub clear_weak-requires-clause-places : goal.clear_weak-requires-clause-places
clear_weak-requires-clause-places g c =
    let marks = c.mark_out-more.ensures.over in
    subst (λ bs. All (IsPlace bs) (taken c.args.parts.weak.now)) (sym marks.bodies) c.requires.weak

pub clear_weak-requires-clause-registered : goal.clear_weak-requires-clause-registered
clear_weak-requires-clause-registered g c =
    let marks = c.mark_out-more.ensures.over in
    all_shown c.args.parts.types.now c.args.parts.nodes.now.value c.mark_out-more.new.seat (length (callback_kinds c.args.parts.callbacks.now)) c.args.parts.weak_calls.now.entries
    c.bodies_lie_apart-2.ensures (marks.bodies ∙ c.requires.held.bodies) (marks.known ∙ c.requires.types) c.requires.called c.requires.weakly_registered

pub clear_region-requires-clause-places : goal.clear_region-requires-clause-places
clear_region-requires-clause-places g c = λ x p is.
    let marks = c.mark_out-more.ensures.over in
    place_cleared c.mark_out-more.new.seat c.clear_weak.new.seat p c.clear_weak.ensures.fields
    (subst (λ bs. IsPlace bs p) (sym marks.bodies)
    (weak_is_place c.args.parts.nodes.now.value c.pause_begin-held.result.history c.args.parts.seat.now x p
    (found_live c.args.parts.nodes.now.value c.args.parts.region.now c.args.parts.pass.now c.pause_begin-held.result.history c.requires.shared c.pause_begin-held.ensures.found) c.requires.held is))

pub call_back-requires-clause-ready : goal.call_back-requires-clause-ready
call_back-requires-clause-ready g c =
    let nodes : List Node = c.args.parts.nodes.now.value in
    let y : SeatView = c.mark_out-more.new.seat in
    let marks = c.mark_out-more.ensures.over in
    let judged_is : c.judged.result.value ≡ nodes_after (kept_of (holds c.mark_out-more.new.seat.marked) c.args.parts.nodes.now.value) c.args.parts.nodes.now.value =
    c.judged.ensures ∙ ap (λ (u : SeatView). nodes_after (kept_of (holds u.marked) c.args.parts.nodes.now.value) c.args.parts.nodes.now.value) (c.clear_region.ensures.view ∙ c.clear_weak.ensures.fields) in
    let ready : IsPrepared c.args.parts.space.now c.args.parts.types.now (both_cleared y) (nodes_after (kept_of (holds y.marked) nodes) nodes) =
    prepared c.args.parts.space.now c.args.parts.types.now (callback_kinds c.args.parts.callbacks.now) nodes (IsRootPlace c.args.parts.strong.now c.pause_begin-held.result.history c.args.precise c.args.parts.seat.now.bodies c.args.stack.now) (IsMayOrRoot c.pause_begin-held.result.history c.args.precise c.args.parts.seat.now c.args.stack.now)
    c.args.parts.seat.now y c.requires.valid c.requires.types c.requires.heap (c.bodies_lie_apart.ensures.marking c.requires.ready.on).no_dead c.requires.held c.requires.few marks in
    subst (IsPrepared c.args.parts.space.now c.args.parts.types.now c.clear_region.new.seat) (sym judged_is)
    (prepared_looked c.args.parts.space.now c.args.parts.types.now (both_cleared y) c.clear_region.new.seat (nodes_after (kept_of (holds y.marked) nodes) nodes)
    (c.clear_region.ensures.view ∙ c.clear_weak.ensures.fields) ready)

pub call_back-requires-clause-registered : goal.call_back-requires-clause-registered
call_back-requires-clause-registered g c = λ k d low.
    let judged_is : c.judged.result.value ≡ nodes_after (kept_of (holds c.mark_out-more.new.seat.marked) c.args.parts.nodes.now.value) c.args.parts.nodes.now.value =
    c.judged.ensures ∙ ap (λ (u : SeatView). nodes_after (kept_of (holds u.marked) c.args.parts.nodes.now.value) c.args.parts.nodes.now.value) (c.clear_region.ensures.view ∙ c.clear_weak.ensures.fields) in
    let callbacks : ℕ = length (callback_kinds c.args.parts.callbacks.now) in
    let entry : Registered = get_or c.args.parts.registry.now.entries k d in
    subst (λ (ns : List Node). IsRegistered ns callbacks entry) (sym judged_is)
    (registered_after (kept_of (holds c.mark_out-more.new.seat.marked) c.args.parts.nodes.now.value) c.args.parts.nodes.now.value callbacks entry (c.requires.registered k d low))

pub call_back-requires-clause-weakly_registered : goal.call_back-requires-clause-weakly_registered
call_back-requires-clause-weakly_registered g c =
    let nodes : List Node = c.args.parts.nodes.now.value in
    let v : SeatView = c.mark_out-more.new.seat in
    let callbacks : ℕ = length (callback_kinds c.args.parts.callbacks.now) in
    let setup : Setup = setup_in_space c.args.parts.space.now c.args.parts.types.now (callback_kinds c.args.parts.callbacks.now) in
    let marked : IsMarked setup nodes v =
    marked_is setup nodes (IsRootPlace c.args.parts.strong.now c.pause_begin-held.result.history c.args.precise c.args.parts.seat.now.bodies c.args.stack.now) (IsMayOrRoot c.pause_begin-held.result.history c.args.precise c.args.parts.seat.now c.args.stack.now)
    c.args.parts.seat.now v c.requires.valid c.requires.types (c.bodies_lie_apart.ensures.marking c.requires.ready.on).no_dead c.requires.held c.mark_out-more.ensures.over in
    let judged_is : c.judged.result.value ≡ nodes_after (kept_of (holds v.marked) nodes) nodes =
    c.judged.ensures ∙ ap (λ (u : SeatView). nodes_after (kept_of (holds u.marked) nodes) nodes) (c.clear_region.ensures.view ∙ c.clear_weak.ensures.fields) in
    let left = c.clear_weak.ensures.entries
    ∙ left_after setup nodes v c.args.parts.weak_calls.now.entries marked c.bodies_lie_apart-2.ensures (c.mark_out-more.ensures.over.bodies ∙ c.requires.held.bodies)
    c.requires.weakly_registered in
    subst (λ (ns : List Node). All (IsWeaklyRegistered ns callbacks) c.clear_weak.new.weak_calls.entries) (sym judged_is)
    (subst (All (IsWeaklyRegistered (nodes_after (kept_of (holds v.marked) nodes) nodes) callbacks)) (sym left)
    (may_run c.args.parts.types.now nodes (holds v.marked) callbacks c.requires.called))

pub overflow_add-kept : goal.overflow_add-kept
overflow_add-kept g c =
    let v : SeatView = c.args.parts.seat.now in
    let all : c.args.parts.traced + c.mark_out-more.result ≡ marked_count c.mark_out-more.new.seat = omega (arith, c.requires.traced, c.mark_out-more.ensures.traced) in
    let same : c.mark_out-more.new.seat.bodies ≡ v.bodies =
    c.mark_out-more.ensures.over.bodies in
    let low : c.args.parts.traced + c.mark_out-more.result < 2 ^ 32 =
    few_kept c.args.parts.nodes.now.value v c.mark_out-more.new.seat (c.args.parts.traced + c.mark_out-more.result) c.requires.held same c.requires.few all in
    search rules

pub overflow_sub-result : goal.overflow_sub-result
overflow_sub-result g c =
    let v : SeatView = c.args.parts.seat.now in
    let all : c.args.parts.traced + c.mark_out-more.result ≡ marked_count c.mark_out-more.new.seat = omega (arith, c.requires.traced, c.mark_out-more.ensures.traced) in
    let same : c.mark_out-more.new.seat.bodies ≡ v.bodies =
    c.mark_out-more.ensures.over.bodies in
    let enough : c.args.parts.traced + c.mark_out-more.result ≤ c.objects.result =
    none_missing v c.mark_out-more.new.seat c.objects.result (c.args.parts.traced + c.mark_out-more.result) same all (c.objects.ensures v c.requires.heap) in
    search rules

-- ---- at the end

marks : (g : given.Over) (c : goal.After-is_refused g) → MarksReachable c.args.parts.types.now (IsRootPlace c.args.parts.strong.now c.pause_begin-held.result.history c.args.precise c.args.parts.seat.now.bodies c.args.stack.now) (IsMayOrRoot c.pause_begin-held.result.history c.args.precise c.args.parts.seat.now c.args.stack.now) c.args.parts.seat.now c.mark_out-more.new.seat
marks g c =
    c.mark_out-more.ensures.over

kept : (g : given.Over) → goal.After-is_refused g → List Bool
kept g c = kept_of (holds c.mark_out-more.new.seat.marked) c.args.parts.nodes.now.value

judged_so : (g : given.Over) (c : goal.After-is_refused g) → c.judged.result.value ≡ nodes_after (kept g c) c.args.parts.nodes.now.value
unfolding kept
judged_so g c =
    c.judged.ensures ∙ ap (λ (u : SeatView). nodes_after (kept_of (holds u.marked) c.args.parts.nodes.now.value) c.args.parts.nodes.now.value) (c.clear_region.ensures.view ∙ c.clear_weak.ensures.fields)

stayed : (g : given.Over) (c : goal.After-is_refused g) → HaveStayed (nodes_after (kept g c) c.args.parts.nodes.now.value) c.call_back.new.nodes.value
stayed g c = subst (λ (ns : List Node). HaveStayed ns c.call_back.new.nodes.value) (judged_so g c) c.call_back.ensures.stayed

-- the registrations that clearing left are those of the nodes that are kept
left_so : (g : given.Over) (c : goal.After-is_refused g)
    → c.clear_weak.new.weak_calls.entries
    ≡ map (masked_entry c.args.parts.types.now c.args.parts.nodes.now.value (holds c.mark_out-more.new.seat.marked))
    (weak_holders c.args.parts.types.now (judged_nodes c.args.parts.types.now c.args.parts.nodes.now.value (holds c.mark_out-more.new.seat.marked)))
left_so g c =
    let setup : Setup = setup_in_space c.args.parts.space.now c.args.parts.types.now (callback_kinds c.args.parts.callbacks.now) in
    c.clear_weak.ensures.entries
    ∙ left_after setup c.args.parts.nodes.now.value c.mark_out-more.new.seat c.args.parts.weak_calls.now.entries
    (marked_is setup c.args.parts.nodes.now.value (IsRootPlace c.args.parts.strong.now c.pause_begin-held.result.history c.args.precise c.args.parts.seat.now.bodies c.args.stack.now) (IsMayOrRoot c.pause_begin-held.result.history c.args.precise c.args.parts.seat.now c.args.stack.now)
    c.args.parts.seat.now c.mark_out-more.new.seat c.requires.valid c.requires.types (c.bodies_lie_apart.ensures.marking c.requires.ready.on).no_dead c.requires.held (marks g c))
    c.bodies_lie_apart-2.ensures ((marks g c).bodies ∙ c.requires.held.bodies) c.requires.weakly_registered

-- and their calls are those of the pause
calls_so : (g : given.Over) (c : goal.After-is_refused g)
    → calls_in_order c.clear_weak.new.weak_calls.entries ≡ weak_calls c.args.parts.types.now (condemn (kept g c) c.args.parts.nodes.now.value)
unfolding kept
calls_so g c = ap calls_in_order (left_so g c) ∙ calls_of_kept c.args.parts.types.now c.args.parts.nodes.now.value (holds c.mark_out-more.new.seat.marked)

-- those of the kept stay registered
weak_left_so : (g : given.Over) (c : goal.After-is_refused g)
    → AreOfHolders c.args.parts.types.now c.call_back.new.nodes.value c.call_back.new.weak_calls.entries
unfolding kept
weak_left_so g c =
    subst (AreOfHolders c.args.parts.types.now c.call_back.new.nodes.value) (sym (c.call_back.ensures.weak_left ∙ left_so g c))
    (left_registered c.args.parts.types.now c.args.parts.nodes.now.value (holds c.mark_out-more.new.seat.marked) c.call_back.new.nodes.value (stayed g c))

-- what the pause found
found : (g : given.Over) (c : goal.After-is_refused g) → NamesLive c.args.parts.nodes.now.value c.pause_begin-held.result.history
found g c =
    found_live c.args.parts.nodes.now.value c.args.parts.region.now c.args.parts.pass.now c.pause_begin-held.result.history c.requires.shared c.pause_begin-held.ensures.found

-- its pass has seen that, and then the pause's entry
before : (g : given.Over) (c : goal.After-is_refused g) → found_before c.clear_region.new.pass ≡ c.pause_begin-held.result.history
before g c =
    before_own c.pause_begin-held.result.history _ c.clear_region.new.pass
    (ap (λ (s : PassView). s.seen) c.clear_region.ensures.pass)

pub returns-clause-paused : goal.returns-clause-paused
unfolding kept
returns-clause-paused g c = λ slots may names within.
    let nodes : List Node = c.args.parts.nodes.now.value in
    let v : SeatView = c.args.parts.seat.now in
    let others : List ℕ = other_roots nodes c.clear_region.new.pass c.args.precise c.args.stack.now in
    let other : ℕ → Type 0 = IsOtherRoot c.pause_begin-held.result.history c.args.precise v.bodies c.args.stack.now in
    let are = others_at nodes c.clear_region.new.pass c.pause_begin-held.result.history c.args.precise c.args.stack.now v (found g c)
    (before g c) (c.bodies_lie_apart.ensures.marking c.requires.ready.on).no_dead c.requires.held in
    let at = has_marked (setup_in_space c.args.parts.space.now c.args.parts.types.now (callback_kinds c.args.parts.callbacks.now)) nodes slots c.args.parts.strong.now may others other v
    c.mark_out-more.new.seat c.bodies_lie_apart.ensures c.requires.ready.on c.requires.valid c.requires.held names within are (marks g c) in
    let between = keeps_between (setup_in_space c.args.parts.space.now c.args.parts.types.now (callback_kinds c.args.parts.callbacks.now)) nodes (slot_targets slots ++ others)
    (members may ++ others) (IsRootPlace c.args.parts.strong.now c.pause_begin-held.result.history c.args.precise v.bodies c.args.stack.now)
    (IsMayOrRoot c.pause_begin-held.result.history c.args.precise v c.args.stack.now) v c.mark_out-more.new.seat c.reach_is_least.ensures at in
    let kinds : List ActionKind = callback_kinds c.args.parts.callbacks.now in
    paused_is kinds c.args.parts.types.now (roots_with (slot_targets slots) nodes c.clear_region.new.pass c.args.precise c.args.stack.now)
    (roots_with (members may) nodes c.clear_region.new.pass c.args.precise c.args.stack.now) (kept g c) nodes c.judged.result.value c.call_back.new.nodes.value
    c.args.parts.registry.now c.call_back.new.registry c.call_back.new.weak_calls
    (subst (λ least. IsKeptBetween nodes least (roots_with (members may) nodes c.clear_region.new.pass c.args.precise c.args.stack.now) (kept g c))
    (roots_with_others (slot_targets slots) nodes c.clear_region.new.pass c.args.precise c.args.stack.now)
    (subst (λ most. IsKeptBetween nodes (slot_targets slots ++ others) most (kept g c))
    (roots_with_others (members may) nodes c.clear_region.new.pass c.args.precise c.args.stack.now) between))
    (judged_so g c)
    (c.call_back.ensures.nodes
    ∙ ap (λ calls. prefinalised kinds (run_order c.judged.result.value (registrations_of c.args.parts.registry.now.entries)) (called kinds calls c.judged.result.value))
    (calls_so g c)) c.call_back.ensures.stayed c.call_back.ensures.left c.call_back.ensures.ran (weak_left_so g c)
    (c.call_back.ensures.weak_ran ∙ ap (map pair_called) (calls_so g c))

pub returns-clause-weak : goal.returns-clause-weak
unfolding kept
returns-clause-weak g c = λ slots names.
    c.clear_weak.ensures.slots
    ∙ weak_left_is c.args.parts.nodes.now.value c.call_back.new.nodes.value c.mark_out-more.new.seat slots c.args.parts.weak.now names.live names.places_are (stayed g c)

pub returns-clause-region : goal.returns-clause-region
unfolding kept
returns-clause-region g c =
    region_paused c.call_back.new.nodes.value c.pause_begin-held.result (dying_of (λ a. not (holds c.clear_weak.new.seat.marked a)) c.pause_begin-held.result.history)
    c.args.parts.pass.now c.pause_begin-held.new.pass c.clear_region.new.pass c.pause_begin-held.ensures.found c.requires.shared.first c.requires.shared.ready.free
    (cleared_are_dead c.args.parts.nodes.now.value c.call_back.new.nodes.value c.mark_out-more.new.seat c.clear_weak.new.seat c.pause_begin-held.result.history (found g c)
    (stayed g c) (ap (λ (u : SeatView). u.marked) c.clear_weak.ensures.fields)) c.pause_begin-held.ensures.pass c.clear_region.ensures.pass c.clear_region.ensures.legal
    c.clear_region.ensures.weak

pub returns-clause-extents : goal.returns-clause-extents
returns-clause-extents g c =
    c.call_back.ensures.extents ∙ ap (λ (u : SeatView). extents_of_bodies u.bodies) (c.clear_region.ensures.view ∙ c.clear_weak.ensures.fields) ∙ extents_cleared c.mark_out-more.new.seat
    ∙ ap (λ (bs : List Body). extents_of_bodies bs) (marks g c).bodies

-- all that is marked was traced before or now
counted : (g : given.Over) (c : goal.After-is_refused g) → c.args.parts.traced + c.mark_out-more.result ≡ marked_count c.mark_out-more.new.seat
counted g c =
    omega (arith, c.requires.traced, c.mark_out-more.ensures.traced)

live : (g : given.Over) (c : goal.After-is_refused g) → c.args.parts.traced + c.mark_out-more.result ≡ live_count c.call_back.new.nodes.value
unfolding kept
live g c =
    counted g c
    ∙ kept_count c.args.parts.nodes.now.value c.call_back.new.nodes.value (IsRootPlace c.args.parts.strong.now c.pause_begin-held.result.history c.args.precise c.args.parts.seat.now.bodies c.args.stack.now)
    (IsMayOrRoot c.pause_begin-held.result.history c.args.precise c.args.parts.seat.now c.args.stack.now) c.args.parts.types.now c.args.parts.seat.now c.mark_out-more.new.seat c.requires.held
    (c.bodies_lie_apart.ensures.marking c.requires.ready.on).no_dead (marks g c) (stayed g c)

pub returns-clause-kept : goal.returns-clause-kept
returns-clause-kept g c = live g c

pub returns-clause-traced : goal.returns-clause-traced
returns-clause-traced g c = refl

pub returns-clause-dead : goal.returns-clause-dead
returns-clause-dead g c =
    dead_left c.call_back.new.nodes.value c.call_back.new.seat c.objects.result (c.args.parts.traced + c.mark_out-more.result) c.call_back.ensures.ready.held
    (c.objects.ensures c.call_back.new.seat c.call_back.ensures.ready.laid) (live g c)

pub returns-clause-looked : goal.returns-clause-looked
unfolding kept
returns-clause-looked g c = λ precise fine.
    let nodes : List Node = c.args.parts.nodes.now.value in
    let v : SeatView = c.args.parts.seat.now in
    let w : SeatView = c.mark_out-more.new.seat in
    let x : SeatView = c.clear_weak.new.seat in
    let y : SeatView = c.clear_region.new.seat in
    let z : SeatView = c.call_back.new.seat in
    looked_early (IsPlaceOfKept nodes c.call_back.new.nodes.value) c.args.parts.types.now v w z c.mark_out-more.ensures.early
    (starts_with_trans z.looked y.looked w.looked c.call_back.ensures.looked
    (starts_with_trans y.looked x.looked w.looked c.clear_region.ensures.looked c.clear_weak.ensures.looked))
    (c.call_back.ensures.early ∙ ap (λ (u : SeatView). u.early) (c.clear_region.ensures.view ∙ c.clear_weak.ensures.fields))
    (looked_at_kept (setup_in_space c.args.parts.space.now c.args.parts.types.now (callback_kinds c.args.parts.callbacks.now)) nodes c.call_back.new.nodes.value v w c.requires.valid c.requires.held
    c.requires.types (c.bodies_lie_apart.ensures.marking c.requires.ready.on).no_dead c.bodies_lie_apart-2.ensures (marks g c).bodies (stayed g c))
    (c.mark_out-more.ensures.looked precise fine)
