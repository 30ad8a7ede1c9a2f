use Rattle.std.specs.Arc.{arc_value}
use Rattle.marker_core.specs.declared.states.Body.{Body}
use Rattle.page_space.specs.Space.{extents_of_bodies}
use Rattle.std.proofs.Common.{◌≡◌, ℕ, ◌+◌, ◌<◌, List, Bool, false, length, ◌++◌, sym, ap, ◌∙◌, subst, arith}
use Rattle.std.specs.List.{All}
use Rattle.std.specs.Option.{ForSome}
use Rattle.gc_graph.specs.State.{ObjectType, Node, slot_targets}
use Rattle.mark_worklist.specs.declared.marking.Marking.{Marking}
use Rattle.mark_worklist.specs.Refusals.{TellsRefused, refusals_of}
use Rattle.mark_worklist.specs.Told.{told_then}
use Rattle.marker_core.specs.Bodies.{IsPlace}
use Rattle.marker_core.specs.Bodies.{holds}
use Rattle.atomic_pause.specs.NodePlaces.{places_differ}
use Rattle.atomic_pause.specs.Nodes.{IsHeld, place_of}
use Rattle.marker_crew.specs.Marking.{traced_count}
use Rattle.heap_objects.specs.Crews.{IsSameHeap, refusals_of_all}
use Rattle.heap_objects.specs.Marking.{grey_of, refused_in}
use Rattle.heap_objects.proofs.CrewStays.{crew_is}
use Rattle.heap_objects.proofs.MarksStepped.{traced_few}
use Rattle.page_words.specs.Seat.{SeatView, unlooked}
use Rattle.persistent_slots.specs.Clearing.{taken}
use Rattle.atomic_pause.specs.KeptNodes.{slots_live, named_places, weak_are_places}
use Rattle.atomic_pause.specs.WeakNodes.{length-after}
use Rattle.marker_crew.specs.Notes.{NotesState, group_at, refusals_in}
use Rattle.mark_worklist.specs.Shares.{ShareState}
use Rattle.heap_objects.specs.declared.marking.Grey.{Grey}
use Rattle.callback_table.specs.Table.{callback_kinds}
use Rattle.gc_graph.specs.May.{members}
use Rattle.atomic_pause.specs.Pausing.{IsMayWithin, IsPaused, hits_in, shared_roots}
use Rattle.heap_objects.specs.Marks.{IsMayOf}
use Rattle.heap_objects.specs.Refused.{RefusedCounts, IsToldTruly}
use Rattle.heap_objects.proofs.PausedSizes.{sizes_stay}
use Rattle.heap_objects.proofs.Refilled.{refilled, no_shares, unrefused_of, unraised_of, counts_left}
use Rattle.heap_objects.proofs.ToldSums.{told_groups, told_shifted}
use Rattle.heap_objects.proofs.ToldTruly.{told_truly}
use Rattle.heap_objects.proofs.Unlooked.{way_is}
use Rattle.heap_objects.proofs.objects.Objects.pause.Goals as goal

-- what may be kept lies in the set
may_joined : (nodes : List Node) (v w : SeatView) (may : List Bool) → IsSameHeap v w → IsMayOf nodes (unlooked v) may → IsMayWithin nodes w may
may_joined nodes v w may same is = record {
  whole = is.whole;
  within = λ n live held. sym (is.same n live) ∙ sym (ap (λ l. holds l (place_of nodes n)) same.may) ∙ held;
}

-- ---- the view once markers were joined

joined_held : (nodes : List Node) (v w : SeatView) → IsSameHeap v w → IsHeld nodes v → IsHeld nodes w
joined_held nodes v w same held = record {
  bodies = same.bodies ∙ held.bodies;
  dead = λ n there. ap (λ l. holds l (place_of nodes n)) same.dead ∙ held.dead n there;
}

pub join_if_running-crew-requires-clause-way : goal.join_if_running-crew-requires-clause-way
join_if_running-crew-requires-clause-way g c =
    let marks = rw (← c.self.view_is) at c.requires.marks in
    way_is c.self.inside.seat c.self.inside.grey.marking (grey_of c.self.inside.grey).notes marks.1.under_way

pub join_if_running-crew-requires-clause-crew : goal.join_if_running-crew-requires-clause-crew
join_if_running-crew-requires-clause-crew g c =
    let marks = rw (← c.self.view_is) at c.requires.marks in
    crew_is c.self.inside.seat (grey_of c.self.inside.grey) marks.1.crew

pub join_if_running-crew-requires-clause-differ : goal.join_if_running-crew-requires-clause-differ
join_if_running-crew-requires-clause-differ g c = places_differ c.self.inside.nodes.value c.self.inside.seat c.bodies_lie_apart.ensures c.self.invariant.held.bodies

pub overflow_add-self-inside : goal.overflow_add-self-inside
overflow_add-self-inside g c =
    let v : SeatView = c.self.inside.seat in
    let w : SeatView = c.join_if_running-crew.new.seat in
    let marks = rw (← c.self.view_is) at c.requires.marks in
    let joined = c.join_if_running-crew.ensures.joined in
    let before : traced_count v ≡ c.self.inside.grey.traced = marks.1.counted in
    omega (arith, joined.counted, before, joined.traced, traced_few v w c.objects-objects.result joined.same.bodies (c.objects-objects.ensures v c.self.invariant.laid), c.objects-objects.type_inv)

pub pause-result-requires-clause-strong : goal.pause-result-requires-clause-strong
pause-result-requires-clause-strong g c =
    let nodes : List Node = c.self.inside.nodes.value in
    let w : SeatView = c.join_if_running-crew.new.seat in
    let held = joined_held nodes c.self.inside.seat w c.join_if_running-crew.ensures.joined.same c.self.invariant.held in
    let named = rw (← c.self.view_is) at c.requires.slots in
    subst (λ l. All (λ slot. ForSome slot (IsPlace w.bodies)) l) (sym named.1.places_are) (named_places nodes w named.0 held.bodies (slots_live nodes named.0 named.1.live))

pub pause-result-requires-clause-weak : goal.pause-result-requires-clause-weak
pause-result-requires-clause-weak g c =
    let nodes : List Node = c.self.inside.nodes.value in
    let w : SeatView = c.join_if_running-crew.new.seat in
    let held = joined_held nodes c.self.inside.seat w c.join_if_running-crew.ensures.joined.same c.self.invariant.held in
    let named = rw (← c.self.view_is) at c.requires.weak in
    subst (λ l. All (IsPlace w.bodies) (taken l)) (sym named.1.places_are) (weak_are_places nodes w named.0 held.bodies (slots_live nodes named.0 named.1.live))

pub pause-result-requires-clause-may : goal.pause-result-requires-clause-may
pause-result-requires-clause-may g c p there =
    ap (λ l. holds l p) c.join_if_running-crew.ensures.joined.same.may ∙ (rw (← c.self.view_is) at c.requires.kept) p there

pub pause-result-requires-clause-few : goal.pause-result-requires-clause-few
pause-result-requires-clause-few g c = omega (arith, c.self.invariant.numbers_are, c.self.ranges)

pub pause-result-requires-clause-traced : goal.pause-result-requires-clause-traced
pause-result-requires-clause-traced g c =
    let marks = rw (← c.self.view_is) at c.requires.marks in
    let joined = c.join_if_running-crew.ensures.joined in
    let before : traced_count c.self.inside.seat ≡ c.self.inside.grey.traced = marks.1.counted in
    omega (arith, joined.counted, before, joined.traced)

pub clear-requires-clause-unshared : goal.clear-requires-clause-unshared
clear-requires-clause-unshared g c none =
    let joined = c.join_if_running-crew.ensures.joined in
    no_shares c.pause-result.new.parts.1.1.0.list.shares (c.pause-result.ensures.shares ∙ ap (λ (l : List ShareState). length l) (joined.unshared (sym joined.markers ∙ none)))

pub clear-requires-clause-home : goal.clear-requires-clause-home
clear-requires-clause-home g c = c.join_if_running-crew.ensures.joined.home

pub clear-requires-clause-groups : goal.clear-requires-clause-groups
clear-requires-clause-groups g c =
    let before : List NotesState = c.join_if_running-crew.new.grey.crew.notes in
    let left : List NotesState = c.pause-result.new.notes in
    let same : length left ≡ length before = c.pause-result.ensures.groups ∙ ap (λ (l : List NotesState). length l) c.notes.ensures.value in
    let joined = c.join_if_running-crew.ensures.joined in
    omega (arith, ap (λ (l : List NotesState). length l) (refilled before left same), same, joined.groups, joined.markers)

pub returns-clause-setup : goal.returns-clause-setup
returns-clause-setup g c =
    rw (← c.self.view_is)
    (ap (λ n. record { shape = c.self.inside.space.shape; markers = n; types = arc_value c.self.inside.types; callbacks = c.self.inside.kinds.value })
    (c.clear.ensures.markers ∙ c.join_if_running-crew.ensures.joined.markers))

pub returns-clause-walked : goal.returns-clause-walked
returns-clause-walked g c =
    let grey : Grey = c.join_if_running-crew.new.grey in
    let before : List NotesState = grey.crew.notes in
    let after : Marking = c.pause-result.new.parts.1.1.0 in
    let left : List NotesState = c.pause-result.new.notes in
    let walked : Bool = c.pause-result.result.walked in
    let since : RefusedCounts = c.self.inside.grey.since.value in
    let joined = c.join_if_running-crew.ensures.joined in
    let same : length left ≡ length before = c.pause-result.ensures.groups ∙ ap (λ (l : List NotesState). length l) c.notes.ensures.value in
    let pushes : TellsRefused (record { told = false; count = since.pushes }) (record { told = after.overflow; count = grey.earlier.value + after.list.refused }) =
    told_then (record { told = false; count = since.pushes }) (record { told = grey.marking.overflow; count = grey.earlier.value + grey.marking.list.refused })
    (record { told = after.overflow; count = grey.earlier.value + after.list.refused })
    (subst (λ n. TellsRefused (record { told = false; count = since.pushes }) (record { told = grey.marking.overflow; count = n + grey.marking.list.refused })) (sym joined.earlier) joined.pushes)
    (told_shifted grey.earlier.value (refusals_of grey.marking) (refusals_of after) c.pause-result.ensures.told) in
    let noted : TellsRefused (record { told = false; count = since.notes }) (refusals_of_all left) =
    told_then (record { told = false; count = since.notes }) (refusals_of_all before) (refusals_of_all left) joined.notes
    (told_groups before left same (λ i low. subst (λ (l : List NotesState). TellsRefused (refusals_in (group_at l i)) (refusals_in (group_at left i))) c.notes.ensures.value (c.pause-result.ensures.notes_told i))) in
    let some : 0 < length left = omega (arith, same, joined.groups) in
    let counts = c.clear.ensures.counts
    ∙ ap (λ (l : List NotesState). refused_in (grey_of (record grey { marking = after; crew = record grey.crew { notes = l } }))) (refilled before left same)
    ∙ counts_left grey after left joined.home some in
    rw (← c.self.view_is)
    (subst (λ counts. IsToldTruly since counts walked) (sym counts)
    (told_truly since grey.earlier.value after left walked pushes noted
    (λ did none. c.pause-result.ensures.walked did (unrefused_of after left none)) (λ stayed. unraised_of after left (c.pause-result.ensures.whole stayed))))

pub invariant_of-self : goal.invariant_of-self
invariant_of-self g c =
    let nodes : List Node = c.self.inside.nodes.value in
    let named = rw (← c.self.view_is) at c.requires.slots in
    let marks = rw (← c.self.view_is) at c.requires.marks in
    let paused = c.pause-result.ensures.paused named.0 marks.0 named.1 (may_joined nodes c.self.inside.seat c.join_if_running-crew.new.seat marks.0 c.join_if_running-crew.ensures.joined.same marks.1.may_is) in
    let rest = c.bodies_lie_apart-2.ensures.at_rest c.pause-result.ensures.ready.off in
    record {
      called = c.self.invariant.called;
      few = c.self.invariant.few;
      known = c.pause-result.ensures.ready.known ∙ c.deref.ensures;
      laid = c.pause-result.ensures.ready.laid;
      still = record { no_hand = rest.no_hand; no_pending = rest.no_pending };
      held = c.pause-result.ensures.ready.held;
      numbers_are = c.self.invariant.numbers_are ∙ sym (paused.stayed.count ∙ length-after paused.kept nodes);
      told = c.clear.ensures.clear.off ∙ sym c.pause-result.ensures.ready.off;
      own = c.clear.ensures.own;
      found = λ some. absurd (omega (arith, some, ap length c.clear.ensures.clear.none_running));
    }

pub returns-clause-paused : goal.returns-clause-paused
returns-clause-paused g c =
    let kinds : callback_kinds c.args.callbacks.now ≡ c.self.inside.kinds.value = rw (← c.self.view_is) at c.requires.kinds in
    rw (← c.self.view_is) (λ slots may named marks.
    let least : List ℕ = slot_targets slots ++ shared_roots c.pause-result.new.parts.1.1.1.1.1.1.0 ++ hits_in c.args.precise c.self.inside.nodes.value c.args.stack.now in
    let most : List ℕ = members may ++ shared_roots c.pause-result.new.parts.1.1.1.1.1.1.0 ++ hits_in c.args.precise c.self.inside.nodes.value c.args.stack.now in
    let new : List Node = c.pause-result.new.parts.1.0.value in
    subst (λ (ts : List ObjectType). IsPaused c.self.inside.kinds.value ts least most c.self.inside.nodes.value new c.args.registered.now.prefinalizers
    c.pause-result.new.parts.1.1.1.1.0 c.pause-result.new.parts.1.1.1.1.1.0) c.deref.ensures
    (subst (λ ks. IsPaused ks c.deref.result.now least most c.self.inside.nodes.value new c.args.registered.now.prefinalizers
    c.pause-result.new.parts.1.1.1.1.0 c.pause-result.new.parts.1.1.1.1.1.0) kinds
    (c.pause-result.ensures.paused slots may named (may_joined c.self.inside.nodes.value c.self.inside.seat c.join_if_running-crew.new.seat may c.join_if_running-crew.ensures.joined.same marks.may_is))))

pub returns-clause-sizes : goal.returns-clause-sizes
returns-clause-sizes g c = λ n live.
    let nodes : List Node = c.self.inside.nodes.value in
    let named = rw (← c.self.view_is) at c.requires.slots in
    let marks = rw (← c.self.view_is) at c.requires.marks in
    let paused = c.pause-result.ensures.paused named.0 marks.0 named.1 (may_joined nodes c.self.inside.seat c.join_if_running-crew.new.seat marks.0 c.join_if_running-crew.ensures.joined.same marks.1.may_is) in
    rw (← c.self.view_is)
    (sizes_stay paused.kept nodes c.pause-result.new.parts.1.0.value c.self.inside.seat c.pause-result.new.parts.0 c.bodies_lie_apart.ensures c.self.invariant.held.bodies
    c.pause-result.ensures.ready.held.bodies (c.pause-result.ensures.extents ∙ ap (λ (bs : List Body). extents_of_bodies bs) c.join_if_running-crew.ensures.joined.same.bodies) paused.stayed n (rw (← c.self.view_is) at live))
