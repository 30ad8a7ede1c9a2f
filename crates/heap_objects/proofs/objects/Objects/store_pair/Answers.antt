use Rattle.std.specs.Arc.{arc_value}
use Rattle.std.specs.List.{Contains}
use Rattle.std.proofs.Common.{◌≡◌, ℕ, ◌+◌, ◌∙◌, List, length, refl, sym, ap, subst, arith}
use Rattle.gc_graph.specs.declared.kind.Value.{Value}
use Rattle.gc_graph.specs.State.{Setup, Node, node_at}
use Rattle.gc_graph.specs.Fields.{word_of_field}
use Rattle.marker_core.specs.Bodies.{IsReference}
use Rattle.page_words.specs.Seat.{SeatView, rewritten}
use Rattle.page_space.specs.Space.{extents_of_bodies}
use Rattle.heap_objects.specs.declared.field.Field.{Field}
use Rattle.atomic_pause.specs.Nodes.{place_of, word_of, IsHeld}
use Rattle.member_fields.specs.Barrier.{HasBarrier}
use Rattle.atomic_pause.specs.NodeChanges.{place_set, life_set}
use Rattle.heap_objects.specs.Marking.{grey_of}
use Rattle.heap_objects.specs.Objects.{paired_in}
use Rattle.atomic_pause.specs.NodePlaces.{live_is_there}
use Rattle.heap_objects.specs.FieldReads.{value_is_reference}
use Rattle.heap_objects.specs.FieldNodes.{with_pair, pair_node, length-pair}
use Rattle.heap_objects.proofs.PairBodies.{held_paired}
use Rattle.heap_objects.specs.PairFields.{has_pair, pair_is, pair_low, null_together}
use Rattle.heap_objects.proofs.MarksKept.{writes_one, writes_then}
use Rattle.heap_objects.proofs.MarksStored.{StayThere, marks_stored, held_marked}
use Rattle.heap_objects.proofs.WayChanges.{HeapStays, Leaves, rewritten_leaves, barrier_stays, barrier_leaves, barrier_told}
use Rattle.heap_objects.proofs.objects.Objects.store_pair.Goals as goal

-- the words of the two, and the pair as it was written
abbrev after : SeatView → ℕ → ℕ → ℕ → ℕ → SeatView
after v holder word key value = rewritten (rewritten v (holder + (word + 1)) value) (holder + word) key

pub set_pair-requires-clause-pair : goal.set_pair-requires-clause-pair
set_pair-requires-clause-pair c =
    let setup : Setup = record { shape = c.self.inside.space.shape; markers = c.self.inside.grey.crew.markers; types = (arc_value c.self.inside.types); callbacks = c.self.inside.kinds.value } in
    let is = rw (← c.self.view_is) at c.requires.field in
    has_pair setup c.self.inside.nodes.value c.self.inside.seat is.0 c.args.f c.args.field c.fields_stand_apart.ensures (rw (← c.self.view_is) at c.requires.valid)
    c.self.invariant.held.bodies c.self.invariant.known is.2 c.requires.kind

pub set_pair-requires-clause-key : goal.set_pair-requires-clause-key
set_pair-requires-clause-key c =
    let nodes : List Node = c.self.inside.nodes.value in
    let word : c.args.pair.now.key.word ≡ word_of (place_of nodes) c.args.pair.now.key.value.value = rw (← c.self.view_is) at c.requires.key in
    let parts = rw (← c.self.view_is) at c.requires.parts in
    subst (IsReference c.self.inside.seat.bodies) (sym word)
    (value_is_reference nodes c.self.inside.seat c.args.pair.now.key.value.value c.self.invariant.held.bodies parts.key_names)

pub set_pair-requires-clause-value : goal.set_pair-requires-clause-value
set_pair-requires-clause-value c =
    let nodes : List Node = c.self.inside.nodes.value in
    let word : c.args.pair.now.value.word ≡ word_of (place_of nodes) c.args.pair.now.value.value.value = rw (← c.self.view_is) at c.requires.value in
    let parts = rw (← c.self.view_is) at c.requires.parts in
    subst (IsReference c.self.inside.seat.bodies) (sym word)
    (value_is_reference nodes c.self.inside.seat c.args.pair.now.value.value.value c.self.invariant.held.bodies parts.value_names)

pub set_pair-requires-clause-both : goal.set_pair-requires-clause-both
set_pair-requires-clause-both c =
    let nodes : List Node = c.self.inside.nodes.value in
    let key : c.args.pair.now.key.word ≡ word_of (place_of nodes) c.args.pair.now.key.value.value = rw (← c.self.view_is) at c.requires.key in
    let value : c.args.pair.now.value.word ≡ word_of (place_of nodes) c.args.pair.now.value.value.value = rw (← c.self.view_is) at c.requires.value in
    rw (key, value) (null_together nodes c.args.pair.now.key.value.value c.args.pair.now.value.value.value (rw (← c.self.view_is) at c.requires.parts))

pub invariant_of-self : goal.invariant_of-self
invariant_of-self c =
    let setup : Setup = record { shape = c.self.inside.space.shape; markers = c.self.inside.grey.crew.markers; types = (arc_value c.self.inside.types); callbacks = c.self.inside.kinds.value } in
    let nodes : List Node = c.self.inside.nodes.value in
    let v : SeatView = c.self.inside.seat in
    let k : Value = c.args.pair.now.key.value.value in
    let x : Value = c.args.pair.now.value.value.value in
    let is = rw (← c.self.view_is) at c.requires.field in
    let key : c.args.pair.now.key.word ≡ word_of (place_of nodes) k = rw (← c.self.view_is) at c.requires.key in
    let value : c.args.pair.now.value.word ≡ word_of (place_of nodes) x = rw (← c.self.view_is) at c.requires.value in
    let holder : ℕ = c.args.field.holder in
    let word : ℕ = c.args.field.word in
    let index : ℕ = word_of_field (node_at nodes is.0).object c.args.f in
    let at : holder + word ≡ place_of nodes is.0 + 2 + index = omega (arith, ap (λ (y : Field). y.holder) is.2.is, ap (λ (y : Field). y.word) is.2.is) in
    let next : holder + (word + 1) ≡ place_of nodes is.0 + 2 + (index + 1) = omega arith in
    let u : SeatView = after v holder word c.args.pair.now.key.word c.args.pair.now.value.word in
    let seat : after v holder word (word_of (place_of nodes) k) (word_of (place_of nodes) x) ≡ u =
    sym (ap (λ w. after v holder word w c.args.pair.now.value.word) key ∙ ap (after v holder word (word_of (place_of nodes) k)) value) in
    let barrier : HasBarrier c.args.pair.now.value.word u c.self.inside.grey.marking c.set_pair.new.seat c.set_pair.new.marking =
    subst (λ (y : SeatView). HasBarrier c.args.pair.now.value.word y c.self.inside.grey.marking c.set_pair.new.seat c.set_pair.new.marking) c.set_pair.ensures.addresses c.set_pair.ensures.barrier in
    let stays : HeapStays u c.set_pair.new.seat = barrier_stays c.args.pair.now.value.word u c.set_pair.new.seat c.self.inside.grey.marking c.set_pair.new.marking barrier in
    let leaves : Leaves u c.set_pair.new.seat = barrier_leaves c.args.pair.now.value.word u c.set_pair.new.seat c.self.inside.grey.marking c.set_pair.new.marking barrier in
    let half : SeatView = rewritten v (holder + (word + 1)) c.args.pair.now.value.word in
    let new : with_pair nodes is.0 index k x ≡ c.paired.result.value = sym (c.paired.ensures ∙ ap (λ slot. paired_in nodes slot c.args.f k x) is.1) in
    record {
      called = c.self.invariant.called;
      few = c.self.invariant.few;
      known = stays.types ∙ c.self.invariant.known;
      laid = c.lasts_while_objects_stay.ensures.objects u c.set_pair.new.seat stays.heap (ap extents_of_bodies stays.bodies)
          (c.lasts_while_objects_stay.ensures.store half (holder + word) c.args.pair.now.key.word
          (c.lasts_while_objects_stay.ensures.store v (holder + (word + 1)) c.args.pair.now.value.word c.self.invariant.laid));
      still = leaves.still ((rewritten_leaves half (holder + word) c.args.pair.now.key.word).still ((rewritten_leaves v (holder + (word + 1)) c.args.pair.now.value.word).still c.self.invariant.still));
      held = held_marked c.paired.result.value u c.set_pair.new.seat stays (subst (λ (ns : List Node). IsHeld ns u) new (subst (IsHeld (with_pair nodes is.0 index k x)) seat
          (held_paired nodes v (holder + word) (holder + (word + 1)) is.0 index k x c.bodies_lie_apart.ensures c.self.invariant.held (live_is_there nodes is.0 is.2.live) at next
          (pair_low setup nodes is.0 c.args.f (rw (← c.self.view_is) at c.requires.valid) is.2.live (pair_is nodes is.0 c.args.f c.args.field is.2 c.requires.kind)))));
      numbers_are = c.self.invariant.numbers_are ∙ sym (length-pair nodes is.0 index k x) ∙ ap length new;
      told = barrier_told c.args.pair.now.value.word u c.set_pair.new.seat c.self.inside.grey.marking c.set_pair.new.marking barrier c.self.invariant.told;
      own = c.self.invariant.own;
      found = λ some p there. subst (λ l. Contains l p) (sym stays.done) (c.self.invariant.found some p there);
    }

pub returns-clause-marks : goal.returns-clause-marks
returns-clause-marks c =
    let nodes : List Node = c.self.inside.nodes.value in
    let v : SeatView = c.self.inside.seat in
    let holder : ℕ = c.args.field.holder in
    let word : ℕ = c.args.field.word in
    let half : SeatView = rewritten v (holder + (word + 1)) c.args.pair.now.value.word in
    let u : SeatView = after v holder word c.args.pair.now.key.word c.args.pair.now.value.word in
    let k : Value = c.args.pair.now.key.value.value in
    let x : Value = c.args.pair.now.value.value.value in
    let is = rw (← c.self.view_is) at c.requires.field in
    let index : ℕ = word_of_field (node_at nodes is.0).object c.args.f in
    let y : Node = pair_node (node_at nodes is.0) index k x in
    let new : with_pair nodes is.0 index k x ≡ c.paired.result.value = sym (c.paired.ensures ∙ ap (λ slot. paired_in nodes slot c.args.f k x) is.1) in
    let stay : StayThere nodes c.paired.result.value = subst (StayThere nodes) new
    (record { long = length-pair nodes is.0 index k x; place = λ m. place_set nodes is.0 y m refl; life = λ m. life_set nodes is.0 y m refl }) in
    rw (← c.self.view_is) (marks_stored c.self.inside.space.shape (arc_value c.self.inside.types) c.self.inside.kinds.value nodes c.paired.result.value v u c.set_pair.new.seat
    c.args.pair.now.value.word (grey_of c.self.inside.grey) c.set_pair.new.marking stay
    (writes_then v half u (writes_one v (holder + (word + 1)) c.args.pair.now.value.word) (writes_one half (holder + word) c.args.pair.now.key.word))
    (λ off. ((c.set_pair.ensures.off off).0 ∙ c.set_pair.ensures.addresses, (c.set_pair.ensures.off off).1))
    (subst (λ (z : SeatView). HasBarrier c.args.pair.now.value.word z c.self.inside.grey.marking c.set_pair.new.seat c.set_pair.new.marking) c.set_pair.ensures.addresses c.set_pair.ensures.barrier))
