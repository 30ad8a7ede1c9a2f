use Rattle.std.specs.Arc.{arc_value}
use Rattle.std.specs.List.{Contains}
use Rattle.std.proofs.Common.{◌≡◌, ℕ, ◌+◌, ◌∙◌, List, length, sym, ap, subst, arith}
use Rattle.gc_graph.specs.declared.kind.Value.{Value}
use Rattle.gc_graph.specs.State.{Setup, Node, node_at}
use Rattle.gc_graph.specs.Fields.{word_of_field}
use Rattle.type_table.specs.Types.{is_kind}
use Rattle.page_words.specs.Seat.{SeatView, rewritten}
use Rattle.page_space.specs.Space.{extents_of_bodies}
use Rattle.heap_objects.specs.declared.field.Field.{Field}
use Rattle.atomic_pause.specs.Nodes.{place_of, word_of, IsHeld}
use Rattle.heap_objects.specs.Marking.{grey_of}
use Rattle.heap_objects.specs.Fields.{TakesWord, kept_word}
use Rattle.heap_objects.specs.Objects.{written_in}
use Rattle.atomic_pause.specs.NodePlaces.{live_is_there}
use Rattle.heap_objects.specs.FieldNodes.{with_field, length-field, place-field, life-field}
use Rattle.heap_objects.specs.FieldPlaces.{holder_has_word, word_low}
use Rattle.heap_objects.specs.FieldReads.{takes_word}
use Rattle.heap_objects.proofs.HeldNodes.{held_stored}
use Rattle.heap_objects.proofs.MarksKept.{writes_one}
use Rattle.heap_objects.proofs.MarksStored.{StayThere, marks_stored, held_marked}
use Rattle.heap_objects.proofs.WayChanges.{HeapStays, Leaves, rewritten_leaves, barrier_stays, barrier_leaves, barrier_told}
use Rattle.heap_objects.proofs.objects.Objects.store.Goals as goal
use Rattle.type_table.specs.KindLaws.{kind_itself}

pub write_field-requires-clause-field : goal.write_field-requires-clause-field
write_field-requires-clause-field c =
    let setup : Setup = record { shape = c.self.inside.space.shape; markers = c.self.inside.grey.crew.markers; types = (arc_value c.self.inside.types); callbacks = c.self.inside.kinds.value } in
    let is = rw (← c.self.view_is) at c.requires.field in
    holder_has_word setup c.self.inside.nodes.value c.self.inside.seat is.0 c.args.f c.args.field (is_kind c.args.field.kind) c.fields_stand_apart.ensures
    (rw (← c.self.view_is) at c.requires.valid) c.self.invariant.held.bodies c.self.invariant.known is.2 (kind_itself c.args.field.kind)

pub write_field-requires-clause-word : goal.write_field-requires-clause-word
write_field-requires-clause-word c =
    let nodes : List Node = c.self.inside.nodes.value in
    let word : c.args.content.now.word ≡ word_of (place_of nodes) c.args.content.now.value.value = rw (← c.self.view_is) at c.requires.content in
    subst (TakesWord c.args.field.kind c.self.inside.seat.bodies) (sym word)
    (takes_word nodes c.self.inside.seat c.args.field.kind c.args.content.now.value.value c.self.invariant.held.bodies (rw (← c.self.view_is) at c.requires.value))

pub invariant_of-self : goal.invariant_of-self
invariant_of-self c =
    let setup : Setup = record { shape = c.self.inside.space.shape; markers = c.self.inside.grey.crew.markers; types = (arc_value c.self.inside.types); callbacks = c.self.inside.kinds.value } in
    let nodes : List Node = c.self.inside.nodes.value in
    let x : Value = c.args.content.now.value.value in
    let is = rw (← c.self.view_is) at c.requires.field in
    let word : c.args.content.now.word ≡ word_of (place_of nodes) x = rw (← c.self.view_is) at c.requires.content in
    let a : ℕ = c.args.field.holder + c.args.field.word in
    let index : ℕ = word_of_field (node_at nodes is.0).object c.args.f in
    let at : a ≡ place_of nodes is.0 + 2 + index =
    omega (arith, ap (λ (y : Field). y.holder) is.2.is, ap (λ (y : Field). y.word) is.2.is) in
    let v : SeatView = c.self.inside.seat in
    let u : SeatView = rewritten v a c.args.content.now.word in
    let target : ℕ = kept_word c.args.field.kind c.args.content.now.word in
    let stays : HeapStays u c.write_field.new.seat = barrier_stays target u c.write_field.new.seat c.self.inside.grey.marking c.write_field.new.marking c.write_field.ensures.barrier in
    let leaves : Leaves u c.write_field.new.seat = barrier_leaves target u c.write_field.new.seat c.self.inside.grey.marking c.write_field.new.marking c.write_field.ensures.barrier in
    let seat : rewritten v a (word_of (place_of nodes) x) ≡ u = sym (ap (rewritten v a) word) in
    let new : with_field nodes is.0 index x ≡ c.written.result.value = sym (c.written.ensures ∙ ap (λ slot. written_in nodes slot c.args.f x) is.1) in
    record {
      called = c.self.invariant.called;
      few = c.self.invariant.few;
      known = stays.types ∙ c.self.invariant.known;
      laid = c.lasts_while_objects_stay.ensures.objects u c.write_field.new.seat stays.heap (ap extents_of_bodies stays.bodies)
          (c.lasts_while_objects_stay.ensures.store v a c.args.content.now.word c.self.invariant.laid);
      still = leaves.still ((rewritten_leaves v a c.args.content.now.word).still c.self.invariant.still);
      held = held_marked c.written.result.value u c.write_field.new.seat stays (subst (λ (ns : List Node). IsHeld ns u) new (subst (IsHeld (with_field nodes is.0 index x)) seat
          (held_stored nodes v a is.0 index x c.bodies_lie_apart.ensures c.self.invariant.held (live_is_there nodes is.0 is.2.live) at
          (word_low setup nodes is.0 c.args.f c.args.field (rw (← c.self.view_is) at c.requires.valid) is.2))));
      numbers_are = c.self.invariant.numbers_are ∙ sym (length-field nodes is.0 index x) ∙ ap length new;
      told = barrier_told target u c.write_field.new.seat c.self.inside.grey.marking c.write_field.new.marking c.write_field.ensures.barrier c.self.invariant.told;
      own = c.self.invariant.own;
      found = λ some p there. subst (λ l. Contains l p) (sym stays.done) (c.self.invariant.found some p there);
    }

pub returns-clause-marks : goal.returns-clause-marks
returns-clause-marks c =
    let nodes : List Node = c.self.inside.nodes.value in
    let v : SeatView = c.self.inside.seat in
    let a : ℕ = c.args.field.holder + c.args.field.word in
    let u : SeatView = rewritten v a c.args.content.now.word in
    let x : Value = c.args.content.now.value.value in
    let is = rw (← c.self.view_is) at c.requires.field in
    let index : ℕ = word_of_field (node_at nodes is.0).object c.args.f in
    let new : with_field nodes is.0 index x ≡ c.written.result.value = sym (c.written.ensures ∙ ap (λ slot. written_in nodes slot c.args.f x) is.1) in
    let stay : StayThere nodes c.written.result.value = subst (StayThere nodes) new
    (record { long = length-field nodes is.0 index x; place = place-field nodes is.0 index x; life = life-field nodes is.0 index x }) in
    rw (← c.self.view_is) (marks_stored c.self.inside.space.shape (arc_value c.self.inside.types) c.self.inside.kinds.value nodes c.written.result.value v u c.write_field.new.seat
    (kept_word c.args.field.kind c.args.content.now.word) (grey_of c.self.inside.grey) c.write_field.new.marking stay (writes_one v a c.args.content.now.word)
    c.write_field.ensures.off c.write_field.ensures.barrier)
