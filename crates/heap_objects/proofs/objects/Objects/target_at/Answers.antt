use Rattle.std.specs.Arc.{arc_value}
use Rattle.std.proofs.Common.{List}
use Rattle.gc_graph.specs.State.{Setup, Node}
use Rattle.gc_graph.specs.Fields.{is_reference}
use Rattle.heap_objects.specs.Fields.{value_in}
use Rattle.heap_objects.specs.FieldPlaces.{holder_has_word}
use Rattle.heap_objects.specs.FieldReads.{reads_reference}
use Rattle.heap_objects.proofs.objects.Objects.target_at.Goals as goal

pub get-reference-requires-clause-field : goal.get-reference-requires-clause-field
get-reference-requires-clause-field c =
    let setup : Setup = record { shape = c.self.inside.space.shape; markers = c.self.inside.grey.crew.markers; types = (arc_value c.self.inside.types); callbacks = c.self.inside.kinds.value } in
    let is = rw (← c.self.view_is) at c.requires.field in
    holder_has_word setup c.self.inside.nodes.value c.self.inside.seat is.0 is.1 c.args.field is_reference c.fields_stand_apart.ensures
    (rw (← c.self.view_is) at c.requires.valid) c.self.invariant.held.bodies c.self.invariant.known is.2 c.requires.reference

pub named_by-requires : goal.named_by-requires
named_by-requires c =
    let setup : Setup = record { shape = c.self.inside.space.shape; markers = c.self.inside.grey.crew.markers; types = (arc_value c.self.inside.types); callbacks = c.self.inside.kinds.value } in
    let nodes : List Node = c.self.inside.nodes.value in
    let is = rw (← c.self.view_is) at c.requires.field in
    record {
      reference = (
        value_in nodes is.0 is.1,
        reads_reference setup nodes c.self.inside.seat is.0 is.1 c.args.field c.get-reference.result (rw (← c.self.view_is) at c.requires.valid)
            c.self.invariant.held.bodies is.2 c.requires.reference c.get-reference.ensures.word,
      );
    }

pub returns-clause-target : goal.returns-clause-target
returns-clause-target c = rw (← c.self.view_is) (λ n f is.
    let setup : Setup = record { shape = c.self.inside.space.shape; markers = c.self.inside.grey.crew.markers; types = (arc_value c.self.inside.types); callbacks = c.self.inside.kinds.value } in
    let nodes : List Node = c.self.inside.nodes.value in
    c.named_by.ensures.target (value_in nodes n f)
    (reads_reference setup nodes c.self.inside.seat n f c.args.field c.get-reference.result (rw (← c.self.view_is) at c.requires.valid)
    c.self.invariant.held.bodies is c.requires.reference c.get-reference.ensures.word))
