use Rattle.std.specs.Arc.{arc_value}
use Rattle.gc_graph.specs.State.{Setup}
use Rattle.gc_graph.specs.Fields.{is_plain}
use Rattle.heap_objects.specs.FieldPlaces.{holder_has_word}
use Rattle.heap_objects.specs.FieldReads.{reads_number}
use Rattle.heap_objects.proofs.objects.Objects.word_at.Goals as goal

pub get_word-requires-clause-field : goal.get_word-requires-clause-field
get_word-requires-clause-field c =
    let setup : Setup = record { shape = c.self.inside.space.shape; markers = c.self.inside.grey.crew.markers; types = (arc_value c.self.inside.types); callbacks = c.self.inside.kinds.value } in
    let is = rw (← c.self.view_is) at c.requires.field in
    holder_has_word setup c.self.inside.nodes.value c.self.inside.seat is.0 is.1 c.args.field is_plain c.fields_stand_apart.ensures
    (rw (← c.self.view_is) at c.requires.valid) c.self.invariant.held.bodies c.self.invariant.known is.2 c.requires.plain

pub returns-clause-number : goal.returns-clause-number
returns-clause-number c = rw (← c.self.view_is) (λ n f is.
    let setup : Setup = record { shape = c.self.inside.space.shape; markers = c.self.inside.grey.crew.markers; types = (arc_value c.self.inside.types); callbacks = c.self.inside.kinds.value } in
    reads_number setup c.self.inside.nodes.value c.self.inside.seat n f c.args.field c.get_word.result (rw (← c.self.view_is) at c.requires.valid)
    c.self.invariant.held.bodies is c.requires.plain c.get_word.ensures.word)
