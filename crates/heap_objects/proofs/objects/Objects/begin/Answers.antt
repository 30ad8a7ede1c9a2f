use Rattle.std.specs.Arc.{arc_value}
use Rattle.std.proofs.Common.{◌≡◌, ℕ, List, Some, true, false, map, refl, sym, ap, ◌∙◌, subst, rules}
use Rattle.std.specs.List.{All, Contains}
use Rattle.std.specs.Option.{ForSome}
use Rattle.std.proofs.lemmas.List.Elements.{All-contains}
use Rattle.gc_graph.specs.Members.{in_from_holds, holds_from, Contains-map}
use Rattle.gc_graph.specs.State.{Setup, Node, IsLive}
use Rattle.marker_core.specs.Bodies.{IsPlace, holds}
use Rattle.page_words.specs.PlaceTests.{test_of_place}
use Rattle.page_words.specs.Seat.{SeatView, IsAlone, IsQuiet, IsView}
use Rattle.atomic_pause.specs.AmongNodes.{IsAmong}
use Rattle.atomic_pause.specs.KeptNodes.{slots_live, named_places, place_slot, root_of_slot}
use Rattle.atomic_pause.specs.Nodes.{place_of, bodies_of}
use Rattle.atomic_pause.specs.WholePairs.{pairs_whole}
use Rattle.atomic_pause.specs.ListedMarks.{ListsMarks-then}
use Rattle.heap_objects.specs.Marking.{grey_of}
use Rattle.heap_objects.proofs.MarkingBegun.{raised, has_begun}
use Rattle.heap_objects.proofs.ToldRoots.{told_place, told_root}
use Rattle.heap_objects.proofs.Unlooked.{quiet_is}
use Rattle.heap_objects.proofs.objects.Objects.begin.Goals as goal

pub keep_reached-requires : goal.keep_reached-requires
keep_reached-requires g c =
    let v : SeatView = c.self.inside.seat in
    let nodes : List Node = c.self.inside.nodes.value in
    let valid = rw (← c.self.view_is) at c.requires.0 in (
      search rules,
      (
        quiet_is v (rw (← c.self.view_is) at c.requires.1.1.0),
        pairs_whole _ nodes v valid c.self.invariant.held c.self.invariant.known,
      ),
    )

pub visit_slots-requires-clause-slots : goal.visit_slots-requires-clause-slots
visit_slots-requires-clause-slots g c =
    let nodes : List Node = c.self.inside.nodes.value in
    let u : SeatView = c.keep_reached.new.seat in
    let named = rw (← c.self.view_is) at c.requires.1.1.1.1.0 in
    let held : u.bodies ≡ bodies_of nodes = ap (λ (x : SeatView). x.bodies) c.keep_reached.ensures.view ∙ c.self.invariant.held.bodies in
    subst (λ l. All (λ slot. ForSome slot (IsPlace u.bodies)) l) (sym named.named.places_are)
    (named_places nodes u named.slots held (slots_live nodes named.slots named.named.live))

pub visit_slots-requires-clause-may : goal.visit_slots-requires-clause-may
visit_slots-requires-clause-may g c p there =
    let v : SeatView = c.self.inside.seat in
    let nodes : List Node = c.self.inside.nodes.value in
    let named = rw (← c.self.view_is) at c.requires.1.1.1.1.0 in
    let places : All (λ slot. ForSome slot (IsPlace v.bodies)) c.args.strong.now =
    subst (λ l. All (λ slot. ForSome slot (IsPlace v.bodies)) l) (sym named.named.places_are)
    (named_places nodes v named.slots c.self.invariant.held.bodies (slots_live nodes named.slots named.named.live)) in
    let slot = place_slot nodes named.slots p (subst (λ l. Contains l (Some p)) named.named.places_are there) in
    let root : IsAmong g.roots slot.0 = named.among slot.0 (root_of_slot named.slots slot.0 slot.1) in
    let told : holds (map (place_of nodes) g.roots) p ≡ true =
    subst (λ q. holds (map (place_of nodes) g.roots) q ≡ true) slot.2
    (holds_from (map (place_of nodes) g.roots) (place_of nodes slot.0) (Contains-map (place_of nodes) g.roots slot.0 (in_from_holds g.roots slot.0 root))) in
    c.keep_reached.ensures.may.roots_in p told
    (test_of_place v.bodies p (All-contains (λ s. ForSome s (IsPlace v.bodies)) c.args.strong.now (Some p) places there p refl))

pub visit_told-requires-clause-places : goal.visit_told-requires-clause-places
visit_told-requires-clause-places g c p there =
    let nodes : List Node = c.self.inside.nodes.value in
    let w : SeatView = c.visit_slots.new.seat in
    let held : w.bodies ≡ bodies_of nodes =
    ap (λ (x : SeatView). x.bodies) c.visit_slots.ensures.marks.view ∙ ap (λ (x : SeatView). x.bodies) c.keep_reached.ensures.view ∙ c.self.invariant.held.bodies in
    told_place nodes w g.roots c.args.told.now held (rw (← c.self.view_is) at c.requires.1.1.1.1.1) p there

pub visit_told-requires-clause-may : goal.visit_told-requires-clause-may
visit_told-requires-clause-may g c p there =
    let v : SeatView = c.self.inside.seat in
    let nodes : List Node = c.self.inside.nodes.value in
    let tells = rw (← c.self.view_is) at c.requires.1.1.1.1.1 in
    let place = test_of_place v.bodies p (told_place nodes v g.roots c.args.told.now c.self.invariant.held.bodies tells p there) in
    ap (λ (x : SeatView). holds x.may p) c.visit_slots.ensures.marks.view
    ∙ c.keep_reached.ensures.may.roots_in p (told_root nodes g.roots c.args.told.now tells p there) place

-- no view is lent while no marking goes on
at_rest_alone : (v : SeatView) → IsView v → v.on ≡ false → IsAlone v
at_rest_alone v view off = (let rest = view.at_rest off in record { no_hand = rest.no_hand; no_pending = rest.no_pending; none_lent = rest.none_lent })

pub returns-clause-marks : goal.returns-clause-marks
returns-clause-marks g c =
    let v : SeatView = c.self.inside.seat in
    let nodes : List Node = c.self.inside.nodes.value in
    let u : SeatView = c.keep_reached.new.seat in
    let setup : Setup = record { shape = c.self.inside.space.shape; markers = c.self.inside.grey.crew.markers; types = (arc_value c.self.inside.types); callbacks = c.self.inside.kinds.value } in
    let quiet : IsQuiet v = quiet_is v (rw (← c.self.view_is) at c.requires.1.1.0) in
    let rest = rw (← c.self.view_is) at c.requires.1.0 in
    let roots : All (IsLive nodes) g.roots = rw (← c.self.view_is) at c.requires.1.1.1.0 in
    let live : (n : ℕ) → IsAmong g.roots n → IsLive nodes n = λ n is. All-contains (IsLive nodes) g.roots n roots (in_from_holds g.roots n is) in
    rw (← c.self.view_is, c.refused.ensures)
    (has_begun setup nodes v u c.visit_told.new.seat (grey_of c.self.inside.grey) c.visit_told.new.marking g.roots c.bodies_lie_apart.ensures
    (rw (← c.self.view_is) at c.requires.0) c.self.invariant.held c.self.invariant.known c.reach_is_least.ensures quiet (at_rest_alone v c.bodies_lie_apart.ensures quiet.off) rest.clear live
    c.keep_reached.ensures.view c.keep_reached.ensures.may (ListsMarks-then u c.visit_slots.new.seat c.visit_told.new.seat (raised (grey_of c.self.inside.grey).marking) c.visit_slots.new.marking c.visit_told.new.marking c.visit_slots.ensures.marks c.visit_told.ensures.marks) (c.visit_told.ensures.noted ∙ c.visit_slots.ensures.noted) c.self.inside.kinds.value)
